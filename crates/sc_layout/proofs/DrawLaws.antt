-- The events of an opening, one call after the other.
use Rattle.std.specs.Prelude.{IsOk}
use Rattle.std.proofs.Math.Nat.{mul-le-mul_right}
use Rattle.std.proofs.Common.{Result, Ok, Err, ◌<◌, ◌≤◌, ◌≡◌, ℕ, zero, suc, ◌+◌, ◌*◌, List, [], ◌∷◌, ◌++◌, map, flat_map, replicate, refl, ap, sym, ◌∙◌, append_assoc, arith}
use Rattle.std.proofs.lemmas.List.{append-nil, map-append}
use Rattle.std.proofs.lemmas.Grind.{flat_map-append}
use Rattle.sc_definitions.specs.declared.events.Event.{Event}
use Rattle.sc_definitions.specs.declared.events.Event.TheVariants.{Draw}
use Rattle.sc_definitions.specs.Events.{Rules, Extension, words, extension_draw}
use Rattle.sc_definitions.specs.Transcript.{sent}
use Rattle.sc_challenger.specs.Parties.{Party, LeavesAppended}
use Rattle.sc_layout.specs.Openings.{drawn_point}

-- draws after draws
replicate-more : {X : Type 0} (x : X) (n m : ℕ) → replicate (n + m) x ≡ replicate n x ++ replicate m x
replicate-more x zero m = let none : 0 + m ≡ m = omega arith in ap (λ k. replicate k x) none
replicate-more x (suc n) m =
    let more : suc n + m ≡ suc (n + m) = omega arith in
    ap (λ k. replicate k x) more ∙ ap (λ l. x ∷ l) (replicate-more x n m)

-- one coordinate more
pub draws-more : (i d : ℕ) (h h₁ h₂ : List Event) → h₁ ≡ h ++ replicate (i * d) Draw → h₂ ≡ h₁ ++ replicate d Draw → h₂ ≡ h ++ replicate ((i + 1) * d) Draw
draws-more i d h h₁ h₂ before now =
    let many : i * d + d ≡ (i + 1) * d = omega arith in
    now ∙ ap (λ t. t ++ replicate d Draw) before ∙ append_assoc h (replicate (i * d) Draw) (replicate d Draw)
    ∙ ap (λ t. h ++ t) (sym (replicate-more Draw (i * d) d)) ∙ ap (λ n. h ++ replicate n Draw) many

pub point-none : (R : Rules) (E : Extension) (h : List Event) → drawn_point R E h 0 ≡ []
unfolding drawn_point
point-none R E h = refl

pub point-more : {X : Type 0} (number : X → ℕ) (R R₁ : Rules) (E : Extension) (h h₁ : List Event) (i d : ℕ) (xs ys : List X) (x : X) →
    E.degree ≡ d → R₁ ≡ R → h₁ ≡ h ++ replicate (i * d) Draw → number x ≡ extension_draw R₁ E h₁ → map number xs ≡ drawn_point R E h i → ys ≡ xs ++ x ∷ [] →
    map number ys ≡ drawn_point R E h (i + 1)
unfolding drawn_point
point-more number R R₁ E h h₁ i d xs ys x degree same grown drawn before put =
    let more : suc i ≡ i + 1 = omega arith in
    ap (map number) put ∙ map-append number xs (x ∷ []) ∙ ap (λ l. l ++ number x ∷ []) before
    ∙ ap (λ v. drawn_point R E h i ++ v ∷ []) (drawn ∙ ap (λ r. extension_draw r E h₁) same ∙ ap (extension_draw R E) (grown ∙ ap (λ k. h ++ replicate (i * k) Draw) (sym degree)))
    ∙ ap (drawn_point R E h) more

-- values after values
pub sent-both : (E : Extension) (xs ys : List ℕ) → sent E (xs ++ ys) ≡ sent E xs ++ sent E ys
unfolding sent
sent-both E xs ys = ap words (flat_map-append E.parts xs ys) ∙ map-append _ (flat_map E.parts xs) (flat_map E.parts ys)

-- both lists of an opening
pub observed-both : (E : Extension) (xs ys : List ℕ) (h h₁ h₂ h₃ : List Event) → h₁ ≡ h → h₂ ≡ h₁ ++ sent E xs → h₃ ≡ h₂ ++ sent E ys → h₃ ≡ h ++ sent E (xs ++ ys)
observed-both E xs ys h h₁ h₂ h₃ kept first second =
    second ∙ ap (λ t. t ++ sent E ys) (first ∙ ap (λ t. t ++ sent E xs) kept) ∙ append_assoc h (sent E xs) (sent E ys) ∙ ap (λ t. h ++ t) (sym (sent-both E xs ys))

-- the words of one value are its parts'
pub sent-one : (E : Extension) (x : ℕ) → sent E (x ∷ []) ≡ words (E.parts x)
unfolding sent
sent-one E x = ap words (append-nil (E.parts x))

-- ---- room

-- what is left of the room for n places is enough for one, where fewer than n are taken
pub room-left : (d n i spare : ℕ) → i < n → n * d ≤ spare + i * d → d ≤ spare
room-left d n i spare low room =
    let next : (i + 1) * d ≤ n * d = mul-le-mul_right d (omega (arith, low)) in
    let one : (i + 1) * d ≡ i * d + d = omega arith in
    omega (arith, next, one, room)

-- a call that has room enough is not refused
pub has-room : {X E : Type 0} (events : List Event) (room : ℕ) (before after : Party) (result : Result X E) → LeavesAppended events room before after result → room ≤ before.spare → IsOk result
has-room events room before after (Ok x) left enough = refl
has-room events room before after (Err e) left enough = absurd (left.1 enough)
