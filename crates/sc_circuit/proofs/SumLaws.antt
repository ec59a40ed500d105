-- The sums of a layer's values, each times its weight.
use Rattle.std.proofs.Common.{◌≡◌, ℕ, ◌≤◌, List, [], ◌∷◌, length, map, sym, ◌∙◌, ap, refl, None, arith}
use Rattle.std.proofs.Math.Pow.{pow_mono}
use Rattle.std.proofs.lemmas.List.{length-map}
use Rattle.std.proofs.lemmas.Simd.{map-map}
use Rattle.sc_definitions.specs.Ring.{Ops, IsRing, times}
use Rattle.sc_definitions.specs.Tables.{sum_below, entries, rows_of}
use Rattle.sc_definitions.proofs.RingLaws.{times_comm}
use Rattle.sc_definitions.proofs.Sums.{sum-same}
use Rattle.sc_field.specs.Products.{products}
use Rattle.sc_circuit_definitions.specs.declared.gate.Gate.{Gate}
use Rattle.sc_circuit_definitions.specs.Circuits.{IsWidth, top_width, weighted_sum}
use Rattle.sc_circuit.specs.Shapes.{circuit_fault}
use Rattle.sc_circuit.specs.Steps.{AreSame}
use Rattle.sc_circuit.proofs.ShapeLaws.{circuit-fits}
use Rattle.sc_circuit.proofs.LayersLaws.{width-top}

-- a layer has at most 256 values
pub few-values : (n : ℕ) → IsWidth n → n ≤ 256
few-values n w = let most = pow_mono {i = _} {j = 8} w.few in omega (arith, w.power, most)

pub few-outputs : (layers : List (List Gate)) (inputs : ℕ) → circuit_fault layers inputs ≡ None → top_width layers inputs ≤ 256
few-outputs layers inputs none = few-values (top_width layers inputs) (width-top layers inputs (circuit-fits layers inputs none))

-- as sums of products of entries
pub weighted-products : {X Y : Type 0} (o : Ops) → IsRing o → (base : X → ℕ) (h : ℕ → ℕ) (number : Y → ℕ) (xs : List X) (ws : List Y) →
    products o (length xs) (entries (λ x. h (base x)) xs) (entries number ws) ≡ weighted_sum o (entries number ws) (map h (map base xs))
unfolding products weighted_sum entries rows_of
weighted-products o ring base h number xs ws =
    let many : length xs ≡ length (map h (map base xs)) = sym (length-map xs base) ∙ sym (length-map (map base xs) h) in
    sum-same o (length xs) _ _ (λ b low.
    times_comm o ring (entries (λ x. h (base x)) xs b) (entries number ws b)
    ∙ ap (λ l. times o (entries number ws b) (rows_of l b)) (sym (map-map h base xs)))
    ∙ ap (λ n. sum_below o n (λ b. times o (entries number ws b) (rows_of (map h (map base xs)) b))) many

-- weights that are the same of all values give the same
pub weighted-same : (o : Ops) (w u : ℕ → ℕ) (values : List ℕ) → AreSame (length values) w u → weighted_sum o w values ≡ weighted_sum o u values
unfolding weighted_sum
weighted-same o w u values same = sum-same o (length values) _ _ (λ g low. ap (λ n. times o n (rows_of values g)) (same g low))

-- numbers are their own images
pub map-same : (xs : List ℕ) → map (λ x. x) xs ≡ xs
map-same [] = refl
map-same (x ∷ xs) = ap (λ l. x ∷ l) (map-same xs)
