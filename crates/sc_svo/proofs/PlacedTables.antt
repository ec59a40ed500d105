-- Tables with variables bound one after the other, by the original table with all challenges placed.
use Rattle.std.proofs.Common.{ℕ, ◌<◌, List, sym, ◌∙◌, ap}
use Rattle.sc_definitions.specs.Ring.{Ops, IsRing, element}
use Rattle.sc_definitions.specs.Tables.{evaluation}
use Rattle.sc_definitions.proofs.RingLaws.{element-small}
use Rattle.sc_definitions.proofs.PlacedLaws.{partial_value-folded_by}
use Rattle.sc_table.specs.declared.poly.Poly.{Poly}
use Rattle.sc_table.specs.Polys.{variables_of, table_of}
use Rattle.sc_table.proofs.EntryLaws.{entry-below}
use Rattle.sc_svo.specs.Batches.{GridBatch, IsBoundBy, IsPlacedBy}

pub placed_by : {EF : Type 0} (o : Ops) → IsRing o → (number : EF → ℕ) → ((x : EF) → number x < o.size) → (s : GridBatch) (f : ℕ → ℕ) (rs : List ℕ) (p : Poly EF) →
    IsBoundBy o number s f rs p → IsPlacedBy o number s f rs p
placed_by o ring number below s f rs p is = record {
  variables = is.variables;
  rows = λ b low.
      sym (element-small o ring (table_of number p b) (entry-below o number ring below p.evals.items b))
      ∙ ap (element o) (is.rows b low)
      ∙ sym (partial_value-folded_by o ring evaluation s.order f rs (variables_of p) b low);
}
