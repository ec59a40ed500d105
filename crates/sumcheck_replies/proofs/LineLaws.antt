-- Lines of rounds, one after the other.
use Rattle.std.proofs.Common.{◌≡◌, ℕ, zero, suc, ◌+◌, ◌<◌, ◌≤◌, min, refl, List, [], ◌∷◌, ◌++◌, length, get_or, take, map, ap, sym, ◌∙◌, arith, append_assoc}
use Rattle.std.specs.Prelude.{codes, decimal, Option, Some, None}
use Rattle.std.specs.List.{slice_get}
use Rattle.std.proofs.lemmas.List.{append-nil, take_more, map-append, length-map, length-take-le}
use Rattle.sumcheck_replies.specs.Lines.{spaced, witness_part, round_line, round_name, challenge_part, lines_by}

-- a colon and two spaced texts
colon-spaced : (P A B : List ℕ) → P ++ 58 ∷ [] ++ ((32 ∷ [] ++ A) ++ ((32 ∷ [] ++ B) ++ [])) ≡ P ++ 58 ∷ 32 ∷ [] ++ A ++ 32 ∷ [] ++ B
colon-spaced P A B =
    append_assoc P (58 ∷ []) ((32 ∷ A) ++ ((32 ∷ B) ++ []))
    ∙ ap (λ t. P ++ 58 ∷ 32 ∷ (A ++ 32 ∷ t)) (append-nil B)
    ∙ sym (append_assoc (P ++ 58 ∷ 32 ∷ [] ++ A) (32 ∷ []) B
    ∙ append_assoc (P ++ 58 ∷ 32 ∷ []) A (32 ∷ B)
    ∙ append_assoc P (58 ∷ 32 ∷ []) (A ++ 32 ∷ B))

-- the line of a round that sent two values, without a witness
pub round_line-plain : (i a b r : ℕ) →
    round_line i (a ∷ b ∷ []) None r ≡ codes "round " ++ decimal i ++ codes ": " ++ decimal a ++ codes " " ++ decimal b ++ codes " challenge " ++ decimal r ++ codes "\n"
unfolding round_line spaced witness_part
round_line-plain i a b r =
    ap (λ t. t ++ [] ++ codes " challenge " ++ decimal r ++ codes "\n") (colon-spaced (codes "round " ++ decimal i) (decimal a) (decimal b))
    ∙ ap (λ t. t ++ codes " challenge " ++ decimal r ++ codes "\n") (append-nil (codes "round " ++ decimal i ++ codes ": " ++ decimal a ++ codes " " ++ decimal b))

-- the same with one
pub round_line-witness : (i a b w r : ℕ) →
    round_line i (a ∷ b ∷ []) (Some w) r
    ≡ codes "round " ++ decimal i ++ codes ": " ++ decimal a ++ codes " " ++ decimal b ++ codes " witness " ++ decimal w ++ codes " challenge " ++ decimal r ++ codes "\n"
unfolding round_line spaced witness_part
round_line-witness i a b w r =
    ap (λ t. t ++ (codes " witness " ++ decimal w) ++ codes " challenge " ++ decimal r ++ codes "\n") (colon-spaced (codes "round " ++ decimal i) (decimal a) (decimal b))
    ∙ ap (λ t. t ++ codes " challenge " ++ decimal r ++ codes "\n")
    (sym (append_assoc (codes "round " ++ decimal i ++ codes ": " ++ decimal a ++ codes " " ++ decimal b) (codes " witness ") (decimal w)))

-- one line more
lines-append : (line : ℕ → List ℕ → Option ℕ → ℕ → List ℕ) (i : ℕ) (messages : List (List ℕ)) (ws rs : List ℕ) (m : List ℕ) (r : ℕ) → length messages ≡ length rs →
    lines_by line i (messages ++ m ∷ []) ws (rs ++ r ∷ []) ≡ lines_by line i messages ws rs ++ line (i + length messages) m (slice_get ws (length messages)) r
lines-append line i [] [] [] m r e = let none : i ≡ i + 0 = omega arith in append-nil (line i m None r) ∙ ap (λ k. line k m None r) none
lines-append line i [] (w ∷ ws) [] m r e = let none : i ≡ i + 0 = omega arith in append-nil (line i m (Some w) r) ∙ ap (λ k. line k m (Some w) r) none
lines-append line i [] ws (s ∷ rs) m r e = absurd (omega (arith, e))
lines-append line i (p ∷ messages) ws [] m r e = absurd (omega (arith, e))
lines-append line i (p ∷ messages) [] (s ∷ rs) m r e =
    let more : suc i + length messages ≡ i + suc (length messages) = omega arith in
    ap (λ t. line i p None s ++ t) (lines-append line (suc i) messages [] rs m r (omega (arith, e)))
    ∙ sym (append_assoc (line i p None s) (lines_by line (suc i) messages [] rs) (line (suc i + length messages) m None r))
    ∙ ap (λ k. line i p None s ++ lines_by line (suc i) messages [] rs ++ line k m None r) more
lines-append line i (p ∷ messages) (w ∷ ws) (s ∷ rs) m r e =
    let more : suc i + length messages ≡ i + suc (length messages) = omega arith in
    let found = slice_get ws (length messages) in
    ap (λ t. line i p (Some w) s ++ t) (lines-append line (suc i) messages ws rs m r (omega (arith, e)))
    ∙ sym (append_assoc (line i p (Some w) s) (lines_by line (suc i) messages ws rs) (line (suc i + length messages) m found r))
    ∙ ap (λ k. line i p (Some w) s ++ lines_by line (suc i) messages ws rs ++ line k m found r) more

-- the first k + 1 of some images
pub mapped-more : {X Y : Type 0} (f : X → Y) (xs : List X) (k : ℕ) (x : X) → k < length xs → x ≡ get_or xs k x →
    map f (take (k + 1) xs) ≡ map f (take k xs) ++ f x ∷ []
mapped-more f xs k x low is = ap (map f) (take_more xs k x low ∙ ap (λ t. take k xs ++ t ∷ []) (sym is)) ∙ map-append f (take k xs) (x ∷ [])

pub mapped-count : {X Y : Type 0} (f : X → Y) (xs : List X) (k : ℕ) → k < length xs → length (map f (take k xs)) ≡ k
mapped-count f xs k low = length-map (take k xs) f ∙ length-take-le k xs (omega (arith, low))

-- the lines of the first k + 1 of some rounds
pub lines-more : (line : ℕ → List ℕ → Option ℕ → ℕ → List ℕ) {X Y : Type 0} (sent : X → List ℕ) (drawn : Y → ℕ) (ws : List ℕ) (xs : List X) (ys : List Y) (k : ℕ) (x : X) (y : Y) →
    k < length xs → k < length ys → x ≡ get_or xs k x → y ≡ get_or ys k y →
    lines_by line 0 (map sent (take (k + 1) xs)) ws (map drawn (take (k + 1) ys))
    ≡ lines_by line 0 (map sent (take k xs)) ws (map drawn (take k ys)) ++ line k (sent x) (slice_get ws k) (drawn y)
lines-more line sent drawn ws xs ys k x y low low' is is' =
    let count : 0 + length (map sent (take k xs)) ≡ k = omega (arith, mapped-count sent xs k low) in
    ap (λ t. lines_by line 0 t ws (map drawn (take (k + 1) ys))) (mapped-more sent xs k x low is)
    ∙ ap (lines_by line 0 (map sent (take k xs) ++ sent x ∷ []) ws) (mapped-more drawn ys k y low' is')
    ∙ lines-append line 0 (map sent (take k xs)) ws (map drawn (take k ys)) (sent x) (drawn y) (mapped-count sent xs k low ∙ sym (mapped-count drawn ys k low'))
    ∙ ap (λ n. lines_by line 0 (map sent (take k xs)) ws (map drawn (take k ys)) ++ line n (sent x) (slice_get ws (length (map sent (take k xs)))) (drawn y)) count
    ∙ ap (λ n. lines_by line 0 (map sent (take k xs)) ws (map drawn (take k ys)) ++ line k (sent x) (slice_get ws n) (drawn y)) (mapped-count sent xs k low)

-- there are no more lines than messages and challenges
pub lines-all : (line : ℕ → List ℕ → Option ℕ → ℕ → List ℕ) {X Y : Type 0} (sent : X → List ℕ) (drawn : Y → ℕ) (i k : ℕ) (ws : List ℕ) (xs : List X) (ys : List Y) → min (length xs) (length ys) ≤ k →
    lines_by line i (map sent (take k xs)) ws (map drawn (take k ys)) ≡ lines_by line i (map sent xs) ws (map drawn ys)
lines-all line sent drawn i zero ws [] ys few = refl
lines-all line sent drawn i zero ws (x ∷ xs) [] few = refl
lines-all line sent drawn i zero ws (x ∷ xs) (y ∷ ys) few = absurd (omega (arith, few))
lines-all line sent drawn i (suc k) ws [] ys few = refl
lines-all line sent drawn i (suc k) ws (x ∷ xs) [] few = refl
lines-all line sent drawn i (suc k) [] (x ∷ xs) (y ∷ ys) few =
    ap (λ t. line i (sent x) None (drawn y) ++ t) (lines-all line sent drawn (suc i) k [] xs ys (omega (arith, few)))
lines-all line sent drawn i (suc k) (w ∷ ws) (x ∷ xs) (y ∷ ys) few =
    ap (λ t. line i (sent x) (Some w) (drawn y) ++ t) (lines-all line sent drawn (suc i) k ws xs ys (omega (arith, few)))

-- the line of a round, pushed by its parts
pub pushed-round : (start : List ℕ) (i : ℕ) (values : List ℕ) (witness : Option ℕ) (challenge : ℕ) (text text' text'' text''' : List ℕ) →
    text ≡ start ++ round_name i → text' ≡ text ++ spaced values → text'' ≡ text' ++ witness_part witness → text''' ≡ text'' ++ challenge_part challenge →
    text''' ≡ start ++ round_line i values witness challenge
unfolding round_line round_name challenge_part
pushed-round start i values witness challenge text text' text'' text''' name numbers tested end =
    let named = codes "round " ++ decimal i ++ codes ":" in
    let drawn = codes " challenge " ++ decimal challenge ++ codes "\n" in
    end
    ∙ ap (λ t. t ++ drawn) (tested ∙ ap (λ t. t ++ witness_part witness) (numbers ∙ ap (λ t. t ++ spaced values) name))
    ∙ ap (λ t. (t ++ witness_part witness) ++ drawn) (append_assoc start named (spaced values))
    ∙ ap (λ t. t ++ drawn) (append_assoc start (named ++ spaced values) (witness_part witness))
    ∙ append_assoc start ((named ++ spaced values) ++ witness_part witness) drawn
    ∙ ap (λ t. start ++ t)
    (sym (append_assoc ((named ++ spaced values) ++ witness_part witness) (codes " challenge " ++ decimal challenge) (codes "\n"))
    ∙ ap (λ t. t ++ codes "\n") (sym (append_assoc ((named ++ spaced values) ++ witness_part witness) (codes " challenge ") (decimal challenge))))
