-- A selector that stands first, in two parts: with a point of less than 8 coordinates after it, the second part has 8 coordinates.
use Rattle.std.proofs.Common.{◌≡◌, ℕ, ◌+◌, ◌-◌, ◌*◌, ◌^◌, ◌≤◌, List, ◌++◌, length, map, take, drop, sym, ◌∙◌, ap, arith, pow-add}
use Rattle.std.proofs.lemmas.List.{length-map, length-take-le, length-drop, map-append, take-append-drop}

module _ {E : Type 0} (number : E → ℕ) (selector point outer inner weights : List E) (few : length point ≤ 8) (long : 8 ≤ length selector + length point)
    (front : outer ≡ take (length selector - (8 - length point)) selector) (back : inner ≡ drop (length selector - (8 - length point)) selector) (rows : length weights ≡ 256) where
  outer_size : length outer ≡ length selector - (8 - length point)
  outer_size = ap length front ∙ length-take-le (length selector - (8 - length point)) selector (omega arith)

  pub front-size : 2 ^ (length selector + length point) ≡ 2 ^ length outer * length weights
  front-size =
      let whole : length selector + length point ≡ length outer + 8 = omega (arith, outer_size, few, long) in
      ap (λ k. 2 ^ k) whole ∙ pow-add 2 (length outer) 8 ∙ ap (λ k. 2 ^ length outer * k) (sym rows)

  pub front-size_of : 2 ^ (length selector + length point) ≡ 2 ^ length (map number outer) * length weights
  front-size_of = front-size ∙ ap (λ k. 2 ^ k * length weights) (sym (length-map outer number))

  pub front-given : length inner + length point ≡ 8
  front-given =
      let size : length inner ≡ length selector - (length selector - (8 - length point)) = ap length back ∙ length-drop (length selector - (8 - length point)) selector in
      omega (arith, size, few, long)

  pub front-inner : length weights ≡ 2 ^ length (map number inner) * 2 ^ length (map number point)
  front-inner =
      rows ∙ ap (λ k. 2 ^ k) (sym front-given) ∙ pow-add 2 (length inner) (length point)
      ∙ ap (λ k. 2 ^ k * 2 ^ length point) (sym (length-map inner number)) ∙ ap (λ k. 2 ^ length (map number inner) * 2 ^ k) (sym (length-map point number))

  pub front-joined : map number outer ++ map number inner ≡ map number selector
  front-joined =
      let k = length selector - (8 - length point) in
      ap (λ l. map number l ++ map number inner) front ∙ ap (λ l. map number (take k selector) ++ map number l) back
      ∙ sym (map-append number (take k selector) (drop k selector)) ∙ ap (map number) (take-append-drop k selector)
