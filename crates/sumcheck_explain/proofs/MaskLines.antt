-- Lines of masks, one after the other.
use Rattle.std.proofs.Common.{◌≡◌, ℕ, suc, ◌+◌, ◌<◌, List, [], ◌∷◌, ◌++◌, length, get_or, take, map, ap, sym, ◌∙◌, arith, append_assoc}
use Rattle.std.proofs.lemmas.List.{append-nil}
use Rattle.sumcheck_replies.proofs.LineLaws.{mapped-more, mapped-count}
use Rattle.sumcheck_explain.specs.Explains.{mask_line, mask_lines}

-- one mask more
mask_lines-append : (i : ℕ) (masks : List (List ℕ)) (mask : List ℕ) → mask_lines i (masks ++ mask ∷ []) ≡ mask_lines i masks ++ mask_line (i + length masks) mask
mask_lines-append i [] mask = let none : i ≡ i + 0 = omega arith in append-nil (mask_line i mask) ∙ ap (λ k. mask_line k mask) none
mask_lines-append i (m ∷ masks) mask =
    let more : suc i + length masks ≡ i + suc (length masks) = omega arith in
    ap (λ t. mask_line i m ++ t) (mask_lines-append (suc i) masks mask)
    ∙ sym (append_assoc (mask_line i m) (mask_lines (suc i) masks) (mask_line (suc i + length masks) mask))
    ∙ ap (λ k. mask_line i m ++ mask_lines (suc i) masks ++ mask_line k mask) more

-- the first k + 1 of some masks
pub mask_lines-more : {X : Type 0} (says : X → List ℕ) (xs : List X) (k : ℕ) (x : X) → k < length xs → x ≡ get_or xs k x →
    mask_lines 0 (map says (take (k + 1) xs)) ≡ mask_lines 0 (map says (take k xs)) ++ mask_line k (says x)
mask_lines-more says xs k x low is =
    let count : 0 + length (map says (take k xs)) ≡ k = omega (arith, mapped-count says xs k low) in
    ap (mask_lines 0) (mapped-more says xs k x low is) ∙ mask_lines-append 0 (map says (take k xs)) (says x)
    ∙ ap (λ n. mask_lines 0 (map says (take k xs)) ++ mask_line n (says x)) count
