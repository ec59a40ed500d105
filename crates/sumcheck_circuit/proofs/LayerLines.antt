-- Lines of layers, one after the other.
use Rattle.std.proofs.Common.{◌≡◌, ℕ, zero, suc, ◌+◌, ◌<◌, ◌≤◌, min, refl, List, [], ◌∷◌, ◌++◌, length, get_or, take, map, ap, sym, ◌∙◌, arith, append_assoc}
use Rattle.std.proofs.lemmas.List.{append-nil}
use Rattle.sc_circuit.specs.Runs.{GivenLayer}
use Rattle.sumcheck_replies.proofs.LineLaws.{mapped-more, mapped-count}
use Rattle.sumcheck_circuit.specs.CircuitLines.{layer_lines, layers_lines}

-- the lines of one layer more
layers-append : (i : ℕ) (layers : List GivenLayer) (challenges : List (List ℕ)) (merges : List ℕ) (g : GivenLayer) (rs : List ℕ) (m : ℕ) →
    length layers ≡ length challenges → length layers ≡ length merges →
    layers_lines i (layers ++ g ∷ []) (challenges ++ rs ∷ []) (merges ++ m ∷ []) ≡ layers_lines i layers challenges merges ++ layer_lines (i + length layers) g rs m
layers-append i [] [] [] g rs m same same' =
    let none : i ≡ i + 0 = omega arith in append-nil (layer_lines i g rs m) ∙ ap (λ k. layer_lines k g rs m) none
layers-append i [] (r ∷ challenges) merges g rs m same same' = absurd (omega (arith, same))
layers-append i [] [] (x ∷ merges) g rs m same same' = absurd (omega (arith, same'))
layers-append i (l ∷ layers) [] merges g rs m same same' = absurd (omega (arith, same))
layers-append i (l ∷ layers) (r ∷ challenges) [] g rs m same same' = absurd (omega (arith, same'))
layers-append i (l ∷ layers) (r ∷ challenges) (x ∷ merges) g rs m same same' =
    let more : suc i + length layers ≡ i + suc (length layers) = omega arith in
    ap (λ t. layer_lines i l r x ++ t) (layers-append (suc i) layers challenges merges g rs m (omega (arith, same)) (omega (arith, same')))
    ∙ sym (append_assoc (layer_lines i l r x) (layers_lines (suc i) layers challenges merges) (layer_lines (suc i + length layers) g rs m))
    ∙ ap (λ k. layer_lines i l r x ++ layers_lines (suc i) layers challenges merges ++ layer_lines k g rs m) more

-- the lines of the first k + 1 of some layers
pub layers-more : {X Y Z : Type 0} (given : X → GivenLayer) (drawn : Y → List ℕ) (number : Z → ℕ) (ls : List X) (ys : List Y) (zs : List Z) (k : ℕ) (l : X) (y : Y) (z : Z) →
    k < length ls → k < length ys → k < length zs → l ≡ get_or ls k l → y ≡ get_or ys k y → z ≡ get_or zs k z →
    layers_lines 0 (map given (take (k + 1) ls)) (map drawn (take (k + 1) ys)) (map number (take (k + 1) zs))
    ≡ layers_lines 0 (map given (take k ls)) (map drawn (take k ys)) (map number (take k zs)) ++ layer_lines k (given l) (drawn y) (number z)
layers-more given drawn number ls ys zs k l y z low low' low'' is is' is'' =
    let count : 0 + length (map given (take k ls)) ≡ k = omega (arith, mapped-count given ls k low) in
    ap (λ t. layers_lines 0 t (map drawn (take (k + 1) ys)) (map number (take (k + 1) zs))) (mapped-more given ls k l low is)
    ∙ ap (λ t. layers_lines 0 (map given (take k ls) ++ given l ∷ []) t (map number (take (k + 1) zs))) (mapped-more drawn ys k y low' is')
    ∙ ap (layers_lines 0 (map given (take k ls) ++ given l ∷ []) (map drawn (take k ys) ++ drawn y ∷ [])) (mapped-more number zs k z low'' is'')
    ∙ layers-append 0 (map given (take k ls)) (map drawn (take k ys)) (map number (take k zs)) (given l) (drawn y) (number z)
    (mapped-count given ls k low ∙ sym (mapped-count drawn ys k low')) (mapped-count given ls k low ∙ sym (mapped-count number zs k low''))
    ∙ ap (λ n. layers_lines 0 (map given (take k ls)) (map drawn (take k ys)) (map number (take k zs)) ++ layer_lines n (given l) (drawn y) (number z)) count

-- there are no more lines than layers, challenges and merges
pub layers-all : {X Y Z : Type 0} (given : X → GivenLayer) (drawn : Y → List ℕ) (number : Z → ℕ) (i k : ℕ) (ls : List X) (ys : List Y) (zs : List Z) →
    min (min (length ls) (length ys)) (length zs) ≤ k →
    layers_lines i (map given (take k ls)) (map drawn (take k ys)) (map number (take k zs)) ≡ layers_lines i (map given ls) (map drawn ys) (map number zs)
layers-all given drawn number i zero [] ys zs few = refl
layers-all given drawn number i zero (l ∷ ls) [] zs few = refl
layers-all given drawn number i zero (l ∷ ls) (y ∷ ys) [] few = refl
layers-all given drawn number i zero (l ∷ ls) (y ∷ ys) (z ∷ zs) few = absurd (omega (arith, few))
layers-all given drawn number i (suc k) [] ys zs few = refl
layers-all given drawn number i (suc k) (l ∷ ls) [] zs few = refl
layers-all given drawn number i (suc k) (l ∷ ls) (y ∷ ys) [] few = refl
layers-all given drawn number i (suc k) (l ∷ ls) (y ∷ ys) (z ∷ zs) few =
    ap (λ t. layer_lines i (given l) (drawn y) (number z) ++ t) (layers-all given drawn number (suc i) k ls ys zs (omega (arith, few)))
