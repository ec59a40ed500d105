-- Numbered lines, one after the other.
use Rattle.std.proofs.Common.{◌≡◌, ℕ, suc, ◌+◌, ◌<◌, List, [], ◌∷◌, ◌++◌, length, get_or, take, map, ap, sym, ◌∙◌, arith, append_assoc}
use Rattle.std.proofs.lemmas.List.{append-nil}
use Rattle.sumcheck_replies.proofs.LineLaws.{mapped-more, mapped-count}
use Rattle.sumcheck_openings.specs.OpeningsLines.{numbered_line, numbered_lines}

-- one line more
lines-append : (name : List ℕ) (i : ℕ) (xs : List ℕ) (x : ℕ) → numbered_lines name i (xs ++ x ∷ []) ≡ numbered_lines name i xs ++ numbered_line name (i + length xs) x
lines-append name i [] x = let none : i ≡ i + 0 = omega arith in append-nil (numbered_line name i x) ∙ ap (λ k. numbered_line name k x) none
lines-append name i (y ∷ xs) x =
    let more : suc i + length xs ≡ i + suc (length xs) = omega arith in
    ap (λ t. numbered_line name i y ++ t) (lines-append name (suc i) xs x)
    ∙ sym (append_assoc (numbered_line name i y) (numbered_lines name (suc i) xs) (numbered_line name (suc i + length xs) x))
    ∙ ap (λ k. numbered_line name i y ++ numbered_lines name (suc i) xs ++ numbered_line name k x) more

-- the lines of the first k + 1 of some values
pub numbered-more : {X : Type 0} (name : List ℕ) (number : X → ℕ) (xs : List X) (k : ℕ) (x : X) → k < length xs → x ≡ get_or xs k x →
    numbered_lines name 0 (map number (take (k + 1) xs)) ≡ numbered_lines name 0 (map number (take k xs)) ++ numbered_line name k (number x)
numbered-more name number xs k x low is =
    let count : 0 + length (map number (take k xs)) ≡ k = omega (arith, mapped-count number xs k low) in
    ap (numbered_lines name 0) (mapped-more number xs k x low is) ∙ lines-append name 0 (map number (take k xs)) (number x)
    ∙ ap (λ n. numbered_lines name 0 (map number (take k xs)) ++ numbered_line name n (number x)) count
