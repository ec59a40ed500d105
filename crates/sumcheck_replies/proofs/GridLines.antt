-- Lines that end with numbers: those of grids, one after the other, and those of lucky challenges.
use Rattle.std.proofs.Common.{◌≡◌, ℕ, suc, ◌+◌, ◌<◌, List, [], ◌∷◌, ◌++◌, length, get_or, take, map, ap, refl, sym, ◌∙◌, arith, append_assoc}
use Rattle.std.specs.Prelude.{codes, decimal}
use Rattle.std.proofs.lemmas.List.{append-nil, length-map, length-take-le}
use Rattle.sumcheck_replies.specs.Lines.{spaced, grid_name, grid_line, both_lines, grid_lines, lucky_batch_name, lucky_batch_line, lucky_round_name, lucky_round_line}
use Rattle.sumcheck_replies.proofs.LineLaws.{mapped-more}

-- no number
pub spaced-none : spaced [] ≡ []
unfolding spaced
spaced-none = refl

-- numbers after others
spaced-append : (xs ys : List ℕ) → spaced (xs ++ ys) ≡ spaced xs ++ spaced ys
unfolding spaced
spaced-append [] ys = refl
spaced-append (x ∷ xs) ys =
    ap (λ t. codes " " ++ decimal x ++ t) (spaced-append xs ys) ∙ sym (append_assoc (codes " " ++ decimal x) (spaced xs) (spaced ys))

-- the first k + 1 of some numbers
pub spaced-more : {X : Type 0} (number : X → ℕ) (xs : List X) (k : ℕ) (x : X) → k < length xs → x ≡ get_or xs k x →
    spaced (map number (take (k + 1) xs)) ≡ spaced (map number (take k xs)) ++ spaced (number x ∷ [])
spaced-more number xs k x low is = ap spaced (mapped-more number xs k x low is) ∙ spaced-append (map number (take k xs)) (number x ∷ [])

-- a line with numbers after a beginning, pushed by its parts
pushed-named : (start named values text text' text'' : List ℕ) →
    text ≡ start ++ named → text' ≡ text ++ spaced values → text'' ≡ text' ++ codes "\n" → text'' ≡ start ++ (named ++ spaced values ++ codes "\n")
pushed-named start named values text text' text'' name numbers end =
    end ∙ ap (λ t. t ++ codes "\n") (numbers ∙ ap (λ t. t ++ spaced values) name ∙ append_assoc start named (spaced values))
    ∙ append_assoc start (named ++ spaced values) (codes "\n")

-- that of a list of a grid
pub pushed-line : (start : List ℕ) (i : ℕ) (place values text text' text'' : List ℕ) →
    text ≡ start ++ grid_name i place → text' ≡ text ++ spaced values → text'' ≡ text' ++ codes "\n" → text'' ≡ start ++ grid_line i place values
pushed-line start i place values = pushed-named start (grid_name i place) values

-- those of lucky challenges
pub pushed-batch : (start : List ℕ) (roots : ℕ) (values text text' text'' : List ℕ) →
    text ≡ start ++ lucky_batch_name roots → text' ≡ text ++ spaced values → text'' ≡ text' ++ codes "\n" → text'' ≡ start ++ lucky_batch_line values roots
unfolding lucky_batch_name lucky_batch_line
pushed-batch start roots values = pushed-named start (codes "verdict lucky-batch vanishing " ++ decimal roots ++ codes " poly") values

pub pushed-turn : (start : List ℕ) (round roots : ℕ) (values text text' text'' : List ℕ) →
    text ≡ start ++ lucky_round_name round roots → text' ≡ text ++ spaced values → text'' ≡ text' ++ codes "\n" → text'' ≡ start ++ lucky_round_line round values roots
unfolding lucky_round_name lucky_round_line
pushed-turn start round roots values =
    pushed-named start (codes "verdict lucky-round " ++ decimal round ++ codes " vanishing " ++ decimal roots ++ codes " poly") values

-- one grid more
grid_lines-append : (i : ℕ) (grids : List (List ℕ × List ℕ)) (grid : List ℕ × List ℕ) →
    grid_lines i (grids ++ grid ∷ []) ≡ grid_lines i grids ++ both_lines (i + length grids) grid
grid_lines-append i [] grid = let none : i ≡ i + 0 = omega arith in append-nil (both_lines i grid) ∙ ap (λ k. both_lines k grid) none
grid_lines-append i (g ∷ grids) grid =
    let more : suc i + length grids ≡ i + suc (length grids) = omega arith in
    ap (λ t. both_lines i g ++ t) (grid_lines-append (suc i) grids grid)
    ∙ sym (append_assoc (both_lines i g) (grid_lines (suc i) grids) (both_lines (suc i + length grids) grid))
    ∙ ap (λ k. both_lines i g ++ grid_lines (suc i) grids ++ both_lines k grid) more

-- the first k + 1 of some grids
pub grid_lines-more : {X : Type 0} (shown : X → List ℕ × List ℕ) (xs : List X) (k : ℕ) (x : X) → k < length xs → x ≡ get_or xs k x →
    grid_lines 0 (map shown (take (k + 1) xs)) ≡ grid_lines 0 (map shown (take k xs)) ++ both_lines k (shown x)
grid_lines-more shown xs k x low is =
    let count : 0 + length (map shown (take k xs)) ≡ k = omega (arith, length-map (take k xs) shown, length-take-le k xs (omega (arith, low))) in
    ap (grid_lines 0) (mapped-more shown xs k x low is) ∙ grid_lines-append 0 (map shown (take k xs)) (shown x)
    ∙ ap (λ n. grid_lines 0 (map shown (take k xs)) ++ both_lines n (shown x)) count

-- both lines of a grid, pushed after those before it
pub pushed-both : (start done : List ℕ) (i : ℕ) (grid : List ℕ × List ℕ) (text text' text'' : List ℕ) →
    text ≡ start ++ done → text' ≡ text ++ grid_line i (codes "zero") grid.0 → text'' ≡ text' ++ grid_line i (codes "infinity") grid.1 →
    text'' ≡ start ++ (done ++ both_lines i grid)
pushed-both start done i grid text text' text'' before zero infinity =
    let first = grid_line i (codes "zero") grid.0 in
    let second = grid_line i (codes "infinity") grid.1 in
    infinity ∙ ap (λ t. t ++ second) (zero ∙ ap (λ t. t ++ first) before)
    ∙ append_assoc (start ++ done) first second ∙ append_assoc start done (first ++ second)
