use Rattle.std.proofs.Common.{◌≡◌, suc, ◌+◌, ◌-◌, ◌*◌, ◌≤◌, length, take, drop, sym, arith}
use Rattle.std.proofs.lemmas.Nat.{mul-le}
use Rattle.sc_definitions.specs.Residues.{residues}
use Rattle.sc_definitions.specs.Tables.{entries}
use Rattle.sc_small_fields.specs.declared.f65537.F65537.{F65537}
use Rattle.sc_small_fields.specs.ResiduesLaws.{residues_field}
use Rattle.sc_small_fields.proofs.TotalLaws.{totals-none, totals-more}
use Rattle.sc_field.proofs.DotLaws.{products-all}
use Rattle.sc_field.proofs.EntryLaws.{entry-read, entry-below, part-entry, part-length}
use Rattle.sc_small_fields.proofs.f65537.column_totals.Goals as goal

pub loop-a-init : goal.loop-a-init
loop-a-init c = record { totals = totals-none _ _ _ 256 }

pub loop-a-preserved : goal.loop-a-preserved
loop-a-preserved c =
    let of = λ (x : F65537). x.value in
    let rows = c.args.rows.now in
    let factors = c.args.factors.now in
    let width = c.args.width in
    let len = c.args.len in
    let a = c.loop-a.a in
    let start = a * width + c.args.from in
    let n = start + len - start in
    let part = take n (drop start rows) in
    let whole : suc a * width ≤ length factors * width = mul-le (suc a) width (length factors) width (omega (arith, c.loop-a-test.true)) (omega arith) in
    let within : start + len ≤ length rows = omega (arith, c.requires.size, c.requires.inside, whole) in
    let size : length part ≡ len = part-length rows n start len (omega arith) within in
    let factor = c.index-factors-a.result in
    let is = entry-read of factors a factor (omega arith) c.index-factors-a.is in
    record {
      totals = totals-more len (λ k i. entries of rows (i * width + (c.args.from + k))) (entries of factors) a factor.value (entries of part)
          c.loop-a.totals c.add_products.new.totals c.loop-a.invariant.totals factor.below (sym is)
          (λ k. entry-below (residues 65537) of residues_field.ring (λ x. x.below) part k)
          (λ k low. part-entry of rows n start k (a * width + (c.args.from + k)) (omega (arith, low)) (omega arith))
          (λ k low. c.add_products.ensures.gained k (omega (arith, low, size)))
          (λ k high. c.add_products.ensures.others k (omega (arith, high, size)));
    }

pub returns : goal.returns
returns c = λ k low.
    let done : c.loop-a.a ≡ length c.args.factors.now = omega (arith, c.loop-a.auto, c.loop-a-test) in
    products-all (residues 65537) _ _ done (c.loop-a.invariant.totals.sums k low)
