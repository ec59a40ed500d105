-- The values of layers, from the inputs up.
use Rattle.std.proofs.Common.{◌≡◌, ℕ, ◌+◌, ◌<◌, List, [], ◌∷◌, ◌++◌, length, map, get_or, reverse, sym, ◌∙◌, ap, refl, arith, length-append}
use Rattle.std.proofs.lemmas.List.{length-map, get_or-map, map-append, reverse-append}
use Rattle.sc_definitions.specs.Ring.{Ops}
use Rattle.sc_definitions.specs.Tables.{rows_of}
use Rattle.sc_circuit_definitions.specs.declared.gate.Gate.{Gate}
use Rattle.sc_circuit_definitions.specs.Circuits.{gate_value, top_values, all_values, top_width}

pub top-length : (o : Ops) (layers : List (List Gate)) (inputs : List ℕ) → length (top_values o layers inputs) ≡ top_width layers (length inputs)
top-length o [] inputs = refl
top-length o (gates ∷ layers) inputs = length-map gates (gate_value o (rows_of (top_values o layers inputs)))

-- the values of the first of these layers, and those of the others
later-values : Ops → List (List Gate) → List ℕ → List (List ℕ)
later-values o [] inputs = []
later-values o (gates ∷ layers) inputs = all_values o layers inputs

first-values : (o : Ops) (layers : List (List Gate)) (inputs : List ℕ) → all_values o layers inputs ≡ top_values o layers inputs ∷ later-values o layers inputs
unfolding later-values
first-values o [] inputs = refl
first-values o (gates ∷ layers) inputs = refl

last-of : {A : Type 0} (xs : List A) (x d : A) → get_or (xs ++ x ∷ []) (length xs) d ≡ x
last-of [] x d = refl
last-of (y ∷ xs) x d = last-of xs x d

-- of rows that are the values of layers, the inputs first, the last one has those of the first layer
pub last-row : {X : Type 0} (o : Ops) (view : X → List ℕ) (rows : List X) (layers : List (List Gate)) (inputs : List ℕ) (n : ℕ) (row : X) →
    map view rows ≡ reverse (all_values o layers inputs) → n + 1 ≡ length rows → row ≡ get_or rows n row → view row ≡ top_values o layers inputs
last-row o view rows layers inputs n row are last is =
    let before = reverse (later-values o layers inputs) in
    let V = top_values o layers inputs in
    let split : map view rows ≡ before ++ V ∷ [] = are ∙ ap reverse (first-values o layers inputs) ∙ reverse-append (V ∷ []) (later-values o layers inputs) in
    let many : n ≡ length before = omega (arith, last, length-map rows view, ap length split, length-append before (V ∷ [])) in
    ap view is ∙ sym (get_or-map view rows n row [] (omega (arith, last))) ∙ ap (λ xs. get_or xs n []) split
    ∙ ap (λ i. get_or (before ++ V ∷ []) i []) many ∙ last-of before V []

pub row-more : {X : Type 0} (o : Ops) (view : X → List ℕ) (rows : List X) (gates : List Gate) (layers all : List (List Gate)) (inputs : List ℕ) (row : X) →
    map view rows ≡ reverse (all_values o layers inputs) → all ≡ gates ∷ layers →
    view row ≡ map (gate_value o (rows_of (top_values o layers inputs))) gates → map view (rows ++ row ∷ []) ≡ reverse (all_values o all inputs)
row-more o view rows gates layers all inputs row are next is =
    map-append view rows (row ∷ []) ∙ ap (λ xs. xs ++ view row ∷ []) are ∙ ap (λ x. reverse (all_values o layers inputs) ++ x ∷ []) is
    ∙ sym (reverse-append (top_values o (gates ∷ layers) inputs ∷ []) (all_values o layers inputs))
    ∙ sym (ap (λ ls. reverse (all_values o ls inputs)) next)

pub some-rows : {X : Type 0} (o : Ops) (view : X → List ℕ) (rows : List X) (layers : List (List Gate)) (inputs : List ℕ) → map view rows ≡ reverse (all_values o layers inputs) → 0 < length rows
some-rows o view rows layers inputs are =
    let before = reverse (later-values o layers inputs) in
    let V = top_values o layers inputs in
    let split : map view rows ≡ before ++ V ∷ [] = are ∙ ap reverse (first-values o layers inputs) ∙ reverse-append (V ∷ []) (later-values o layers inputs) in
    omega (arith, length-map rows view, ap length split, length-append before (V ∷ []))

-- the values below a layer are as many as its gates may name places of
pub below-width : {X : Type 0} (o : Ops) (number : X → ℕ) (below inputs : List X) (layers : List (List Gate)) (n : ℕ) → length inputs ≡ n →
    map number below ≡ top_values o layers (map number inputs) → length below ≡ top_width layers n
below-width o number below inputs layers n many are =
    sym (length-map below number) ∙ ap length are ∙ top-length o layers (map number inputs)
    ∙ ap (top_width layers) (length-map inputs number ∙ many)

map-reverse : {X Y : Type 0} (f : X → Y) (xs : List X) → map f (reverse xs) ≡ reverse (map f xs)
map-reverse f [] = refl
map-reverse f (x ∷ xs) =
    ap (map f) (reverse-append (x ∷ []) xs) ∙ map-append f (reverse xs) (x ∷ []) ∙ ap (λ ys. ys ++ f x ∷ []) (map-reverse f xs)
    ∙ sym (reverse-append (f x ∷ []) (map f xs))

twice : {X : Type 0} (xs : List X) → reverse (reverse xs) ≡ xs
twice [] = refl
twice (x ∷ xs) = ap reverse (reverse-append (x ∷ []) xs) ∙ reverse-append (reverse xs) (x ∷ []) ∙ ap (λ ys. x ∷ ys) (twice xs)

-- turned round, they stand the outputs first
pub rows-turned : {X : Type 0} (view : X → List ℕ) (rows turned : List X) (values : List (List ℕ)) → map view rows ≡ reverse values → turned ≡ reverse rows → map view turned ≡ values
rows-turned view rows turned values are is = ap (map view) is ∙ map-reverse view rows ∙ ap reverse are ∙ twice values
