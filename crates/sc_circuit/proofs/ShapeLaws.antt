-- Layers that are tested one after the other, and layers without a fault, which are a circuit.
use Rattle.std.proofs.Common.{◌≡◌, ℕ, zero, suc, ◌+◌, ◌*◌, ◌%◌, ◌<◌, ◌≤◌, ◌^◌, ◌==◌, ◌&&◌, ◌||◌, Bool, true, false, nat_lt, List, [], ◌∷◌, length, map, drop, get_or, if◌then◌else◌, Option, Some, None, sym, ◌∙◌, ap, refl, subst, arith, ⊎_elim, eq-eqb, ne_eqb, eqb-true, le-ltb, lt-ltb, drop-cons}
use Rattle.std.specs.Prelude.{Result, Ok, Err, IsErrAnd}
use Rattle.std.specs.Result.{result_err}
use Rattle.std.proofs.Math.Pow.{pow_mono}
use Rattle.std.proofs.lemmas.Bool.{cases_lt}
use Rattle.std.proofs.lemmas.List.{length-map, get_or-map}
use Rattle.sc_definitions.specs.Interpolation.{first_below}
use Rattle.sc_circuit_definitions.specs.declared.gate.Gate.{Gate}
use Rattle.sc_circuit_definitions.specs.Circuits.{most_layer_variables, layer_variables, IsWidth, top_width, PlacesBelow, IsCircuit}
use Rattle.sc_circuit.specs.declared.error.CircuitError.{CircuitError}
use Rattle.sc_circuit.specs.declared.error.CircuitError.TheVariants.{Depth, Width, Wire}
use Rattle.sc_circuit.specs.declared.circuit.Circuit.{Circuit}
use Rattle.sc_circuit.specs.Views.{MakesCircuit}
use Rattle.sc_circuit.specs.Shapes.{most_layers, or_later, depth_fault, width_fault, widths_fault, gates_fault, wires_fault, circuit_fault}

-- ---- the first number that passes a test

pub first-at : (n k : ℕ) (test : ℕ → Bool) → k < n → ((j : ℕ) → j < k → test j ≡ false) → test k ≡ true → first_below n test ≡ k
unfolding first_below
first-at zero k test low none is = absurd (omega (arith, low))
first-at (suc n) zero test low none is = rw is refl
first-at (suc n) (suc k) test low none is =
    rw (none 0 (omega arith)) (ap suc (first-at n k (λ j. test (suc j)) (omega (arith, low)) (λ j less. none (suc j) (omega (arith, less))) is))

pub first-none : (n : ℕ) (test : ℕ → Bool) → ((j : ℕ) → j < n → test j ≡ false) → first_below n test ≡ n
unfolding first_below
first-none zero test none = refl
first-none (suc n) test none =
    rw (none 0 (omega arith)) (ap suc (first-none n (λ j. test (suc j)) (λ j less. none (suc j) (omega (arith, less)))))

-- what a shift by so few places gives
pub shifted : (n : ℕ) → n < 9 → (1 * 2 ^ n) % 18446744073709551616 ≡ 2 ^ n
shifted n low = let some : 2 ^ n ≤ 2 ^ 9 = pow_mono {i = n} {j = 9} (omega (arith, low)) in omega (arith, some)

pub variables-at : (len k : ℕ) → k < 9 → ((j : ℕ) → j < k → (len == 2 ^ j) ≡ false) → len ≡ 2 ^ k → layer_variables len ≡ k
unfolding layer_variables
variables-at len k low none is = first-at 9 k (λ j. len == 2 ^ j) low none (eq-eqb len (2 ^ k) is)

pub variables-none : (len : ℕ) → ((j : ℕ) → j < 9 → (len == 2 ^ j) ≡ false) → layer_variables len ≡ 9
unfolding layer_variables
variables-none len none = first-none 9 (λ j. len == 2 ^ j) none

pub none-more : (len k : ℕ) → ((j : ℕ) → j < k → (len == 2 ^ j) ≡ false) → (len ≡ 2 ^ k → ⊥) → (j : ℕ) → j < k + 1 → (len == 2 ^ j) ≡ false
none-more len k none other j less =
    ⊎_elim (none j) (λ high. let same : k ≡ j = omega (arith, less, high) in subst (λ i. (len == 2 ^ i) ≡ false) same (ne_eqb len (2 ^ k) other)) (cases_lt j k)

-- ---- one item after the other

module _ {A B : Type 0} (f : A → B) (xs : List A) where
  -- the images of the items from this one on
  pub images-next : (i : ℕ) (x : A) → i < length xs → x ≡ get_or xs i x → drop i (map f xs) ≡ f x ∷ drop (i + 1) (map f xs)
  images-next i x inside is =
      let one : suc i ≡ i + 1 = omega arith in
      drop-cons (map f xs) i (f x) (omega (arith, inside, length-map xs f))
      ∙ ap (λ y. y ∷ drop (suc i) (map f xs)) (get_or-map f xs i x (f x) inside ∙ ap f (sym is))
      ∙ ap (λ n. f x ∷ drop n (map f xs)) one

-- ---- a fault of the first layer, and those of the others

pub width-fails : (i inputs : ℕ) (all : List (List Gate)) (gates : List Gate) (rest : List (List Gate)) (e : CircuitError) → all ≡ gates ∷ rest → width_fault i (length gates) ≡ Some e →
    widths_fault i all inputs ≡ Some e
width-fails i inputs all gates rest e are fails = ap (λ ls. widths_fault i ls inputs) are ∙ ap (λ x. or_later x (widths_fault (suc i) rest inputs)) fails

pub width-passes : (i inputs : ℕ) (all : List (List Gate)) (gates : List Gate) (rest : List (List Gate)) → all ≡ gates ∷ rest → width_fault i (length gates) ≡ None →
    widths_fault i all inputs ≡ widths_fault (i + 1) rest inputs
width-passes i inputs all gates rest are passes =
    let one : suc i ≡ i + 1 = omega arith in
    ap (λ ls. widths_fault i ls inputs) are ∙ ap (λ x. or_later x (widths_fault (suc i) rest inputs)) passes ∙ ap (λ n. widths_fault n rest inputs) one

pub wire-fails : (i inputs : ℕ) (all : List (List Gate)) (gates : List Gate) (rest : List (List Gate)) (e : CircuitError) → all ≡ gates ∷ rest →
    gates_fault i (top_width rest inputs) 0 gates ≡ Some e → wires_fault i all inputs ≡ Some e
wire-fails i inputs all gates rest e are fails = ap (λ ls. wires_fault i ls inputs) are ∙ ap (λ x. or_later x (wires_fault (suc i) rest inputs)) fails

pub wire-passes : (i inputs : ℕ) (all : List (List Gate)) (gates : List Gate) (rest : List (List Gate)) → all ≡ gates ∷ rest →
    gates_fault i (top_width rest inputs) 0 gates ≡ None → wires_fault i all inputs ≡ wires_fault (i + 1) rest inputs
wire-passes i inputs all gates rest are passes =
    let one : suc i ≡ i + 1 = omega arith in
    ap (λ ls. wires_fault i ls inputs) are ∙ ap (λ x. or_later x (wires_fault (suc i) rest inputs)) passes ∙ ap (λ n. wires_fault n rest inputs) one

-- what a test is answered by
pub told-err : {T E : Type 0} (r : Result T E) (e : E) → IsErrAnd r (λ x. x ≡ e) → result_err r ≡ Some e
told-err (Ok x) e is = elim is [ ]
told-err (Err x) e is = ap Some is

-- ---- layers without a fault

both-none : (e later : Option CircuitError) → or_later e later ≡ None → (e ≡ None) × (later ≡ None)
both-none None later is = (refl, is)
both-none (Some e) later is = cc

passes-by : (n : ℕ) (test : ℕ → Bool) → (first_below n (λ k. test (suc k)) < n → test (suc (first_below n (λ k. test (suc k)))) ≡ true) → (b : Bool) → test 0 ≡ b →
    (if b then 0 else suc (first_below n (λ k. test (suc k)))) < suc n → test (if b then 0 else suc (first_below n (λ k. test (suc k)))) ≡ true
passes-by n test later true e l = e
passes-by n test later false e l = later (omega (arith, l))

first-passes : (n : ℕ) (test : ℕ → Bool) → first_below n test < n → test (first_below n test) ≡ true
unfolding first_below
first-passes zero test low = absurd (omega (arith, low))
first-passes (suc n) test low = passes-by n test (first-passes n (λ k. test (suc k))) (test 0) refl low

none-if : {E : Type 0} (b : Bool) (e : E) → (if b then Some e else None) ≡ None → b ≡ false
none-if true e is = cc
none-if false e is = refl

width-fits : (i len : ℕ) → width_fault i len ≡ None → IsWidth len
unfolding layer_variables
width-fits i len none =
    let few : layer_variables len ≤ most_layer_variables =
    ⊎_elim (λ (high : most_layer_variables < layer_variables len). let bad : true ≡ false = sym (lt-ltb most_layer_variables (layer_variables len) high) ∙ none-if (nat_lt most_layer_variables (layer_variables len)) (Width i len) none in cc)
    (λ low. low) (cases_lt most_layer_variables (layer_variables len)) in
    record { power = eqb-true _ _ (first-passes (suc most_layer_variables) (λ k. len == 2 ^ k) (omega (arith, few))); few = few }

outside : {E : Type 0} (b c : Bool) (rest : Option E) (e : E) → (if b && c then rest else Some e) ≡ None → (b ≡ true) × (c ≡ true) × (rest ≡ None)
outside true true rest e is = (refl, refl, is)
outside true false rest e is = cc
outside false c rest e is = cc

below : (x n : ℕ) → nat_lt x n ≡ true → x < n
below x n e = ⊎_elim (λ low. low) (λ high. let bad : true ≡ false = sym e ∙ le-ltb x n high in cc) (cases_lt x n)

places-fit : (i n g : ℕ) (gates : List Gate) → gates_fault i n g gates ≡ None → PlacesBelow n gates
places-fit i n g [] none = tt
places-fit i n g (gate ∷ gates) none =
    let all = outside (nat_lt gate.left n) (nat_lt gate.right n) (gates_fault i n (suc g) gates) (Wire i g) none in
    (below gate.left n all.0, below gate.right n all.1, places-fit i n (suc g) gates all.2)

fits-from : (i : ℕ) (layers : List (List Gate)) (inputs : ℕ) → widths_fault i layers inputs ≡ None → wires_fault i layers inputs ≡ None → IsCircuit layers inputs
fits-from i [] inputs widths wires = width-fits i inputs widths
fits-from i (gates ∷ layers) inputs widths wires =
    let w = both-none (width_fault i (length gates)) (widths_fault (suc i) layers inputs) widths in
    let p = both-none (gates_fault i (top_width layers inputs) 0 gates) (wires_fault (suc i) layers inputs) wires in
    (width-fits i (length gates) w.0, places-fit i (top_width layers inputs) 0 gates p.0, fits-from (suc i) layers inputs w.1 p.1)

-- layers without a fault are a circuit
pub circuit-fits : (layers : List (List Gate)) (inputs : ℕ) → circuit_fault layers inputs ≡ None → IsCircuit layers inputs
unfolding circuit_fault
circuit-fits layers inputs none =
    let later = both-none (depth_fault layers) (or_later (widths_fault 0 layers inputs) (wires_fault 0 layers inputs)) none in
    let rest = both-none (widths_fault 0 layers inputs) (wires_fault 0 layers inputs) later.1 in
    fits-from 0 layers inputs rest.0 rest.1

-- and there are some, though not too many
depth_by : (none many : Bool) (e : CircuitError) → (if none || many then Some e else None) ≡ None → (none ≡ false) × (many ≡ false)
depth_by true many e is = cc
depth_by false true e is = cc
depth_by false false e is = (refl, refl)

pub depth-fits : (layers : List (List Gate)) (inputs : ℕ) → circuit_fault layers inputs ≡ None → (0 < length layers) × (length layers ≤ most_layers)
unfolding circuit_fault
depth-fits layers inputs none =
    let first = both-none (depth_fault layers) (or_later (widths_fault 0 layers inputs) (wires_fault 0 layers inputs)) none in
    let both = depth_by (length layers == 0) (nat_lt most_layers (length layers)) (Depth (length layers)) first.0 in
    let some : 0 < length layers = ⊎_elim (λ low. low) (λ high. let is_none : length layers ≡ 0 = omega (arith, high) in let bad : true ≡ false = sym (eq-eqb (length layers) 0 is_none) ∙ both.0 in cc) (cases_lt 0 (length layers)) in
    let few : length layers ≤ most_layers = ⊎_elim (λ (high : most_layers < length layers). let bad : true ≡ false = sym (lt-ltb most_layers (length layers) high) ∙ both.1 in cc) (λ low. low) (cases_lt most_layers (length layers)) in
    (some, few)

-- the tests, one after the other
pub all-pass : (layers : List (List Gate)) (inputs : ℕ) → depth_fault layers ≡ None → widths_fault 0 layers inputs ≡ None → wires_fault 0 layers inputs ≡ None → circuit_fault layers inputs ≡ None
unfolding circuit_fault
all-pass layers inputs depth widths wires = rw (depth, widths, wires) refl

pub depth-fails : (layers : List (List Gate)) (inputs : ℕ) (e : CircuitError) → depth_fault layers ≡ Some e → circuit_fault layers inputs ≡ Some e
unfolding circuit_fault
depth-fails layers inputs e depth = rw depth refl

pub widths-fail : (layers : List (List Gate)) (inputs : ℕ) (e : CircuitError) → depth_fault layers ≡ None → widths_fault 0 layers inputs ≡ Some e → circuit_fault layers inputs ≡ Some e
unfolding circuit_fault
widths-fail layers inputs e depth widths = rw (depth, widths) refl

pub wires-fail : (layers : List (List Gate)) (inputs : ℕ) (e : CircuitError) → depth_fault layers ≡ None → widths_fault 0 layers inputs ≡ None → wires_fault 0 layers inputs ≡ Some e →
    circuit_fault layers inputs ≡ Some e
unfolding circuit_fault
wires-fail layers inputs e depth widths wires = rw (depth, widths, wires) refl

-- the answer of a refusal
pub makes-none : (layers : List (List Gate)) (inputs : ℕ) (r : Result Circuit CircuitError) (e : CircuitError) → IsErrAnd r (λ x. x ≡ e) → circuit_fault layers inputs ≡ Some e →
    MakesCircuit layers inputs r
makes-none layers inputs (Ok x) e is fault = elim is [ ]
makes-none layers inputs (Err x) e is fault = fault ∙ ap Some (sym is)

-- ---- layers from one on

-- they are a circuit too
pub circuit-from : (i : ℕ) (layers : List (List Gate)) (inputs : ℕ) → IsCircuit layers inputs → IsCircuit (drop i layers) inputs
circuit-from zero layers inputs fits = fits
circuit-from (suc i) [] inputs fits = fits
circuit-from (suc i) (gates ∷ layers) inputs fits = circuit-from i layers inputs fits.2

-- each gate of a layer of a circuit names places of the layer below
pub places-in : (layers : List (List Gate)) (inputs : ℕ) (i : ℕ) (gates : List Gate) → circuit_fault layers inputs ≡ None → drop i layers ≡ gates ∷ drop (i + 1) layers →
    PlacesBelow (top_width (drop (i + 1) layers) inputs) gates
places-in layers inputs i gates none next =
    (subst (λ ls. IsCircuit ls inputs) next (circuit-from i layers inputs (circuit-fits layers inputs none))).1

-- the places that a gate names
pub places-at : (n : ℕ) (gates : List Gate) (i : ℕ) (d : Gate) → PlacesBelow n gates → i < length gates → ((get_or gates i d).left < n) × ((get_or gates i d).right < n)
places-at n [] i d places inside = absurd (omega (arith, inside))
places-at n (g ∷ gates) zero d places inside = (places.0, places.1)
places-at n (g ∷ gates) (suc i) d places inside = places-at n gates i d places.2 (omega (arith, inside))
