-- Wires of masks, and masks of wires, one round more at a time.
use Rattle.std.proofs.Common.{◌≡◌, ℕ, List, [], ◌∷◌, ◌++◌, length, map, sym, ◌∙◌, ap, refl, append_assoc, arith}
use Rattle.std.proofs.lemmas.List.{map-append, append-nil}
use Rattle.sc_definitions.specs.Ring.{Ops, plus}
use Rattle.sc_definitions.specs.Polynomials.{poly_at}
use Rattle.sc_zk_definitions.specs.Masks.{Piece, endpoint, masked_round, masked_rounds, wire_of}
use Rattle.sc_zk_definitions.specs.Explained.{Unmixing, explained_mask, explained_masks}

-- an item more at the end is an item fewer of what is to come
moved : {A B : Type 0} (f : A → B) (before after : List A) (w : A) (v : B) (rest : List B) → after ≡ before ++ w ∷ [] → f w ≡ v →
    map f after ++ rest ≡ map f before ++ v ∷ rest
moved f before after w v rest put is =
    ap (λ l. map f l ++ rest) put ∙ ap (λ l. l ++ rest) (map-append f before (w ∷ [])) ∙ append_assoc (map f before) (f w ∷ []) rest
    ∙ ap (λ u. map f before ++ u ∷ rest) is

-- nothing is to come
pub none-left : {B : Type 0} (made rest all : List B) → rest ≡ [] → made ++ rest ≡ all → made ≡ all
none-left made rest all none is = sym (append-nil made) ∙ ap (λ l. made ++ l) (sym none) ∙ is

module _ (o : Ops) where
  -- the wires that are to come
  abbrev pub wires_left : ℕ → ℕ → List (List ℕ) → List ℕ → List Piece → List (List ℕ)
  wires_left eps done ss gs ps = map wire_of (masked_rounds o eps done ss gs ps)

  pub no-wires : (eps done : ℕ) (ss : List (List ℕ)) (gs : List ℕ) (ps : List Piece) → ss ≡ [] → wires_left eps done ss gs ps ≡ []
  unfolding masked_rounds
  no-wires eps done [] gs ps none = refl
  no-wires eps done (s ∷ ss) gs ps none = absurd (omega (arith, ap length none))

  -- one wire more
  pub wire-more : {A : Type 0} (f : A → List ℕ) (eps done done' : ℕ) (ss ss' : List (List ℕ)) (gs gs' : List ℕ) (ps ps' : List Piece) (s : List ℕ) (g : ℕ) (p : Piece)
      (before after : List A) (w : A) (all : List (List ℕ)) → ss ≡ s ∷ ss' → gs ≡ g ∷ gs' → ps ≡ p ∷ ps' → after ≡ before ++ w ∷ [] →
      f w ≡ wire_of (masked_round o eps done s (map (endpoint o) ss') p) → done' ≡ plus o done (poly_at o s g) →
      map f before ++ wires_left eps done ss gs ps ≡ all → map f after ++ wires_left eps done' ss' gs' ps' ≡ all
  unfolding masked_rounds
  wire-more f eps done done' ss ss' gs gs' ps ps' s g p before after w all is is' is'' put wire more so_far =
      ap (λ d. map f after ++ wires_left eps d ss' gs' ps') more
      ∙ moved f before after w (wire_of (masked_round o eps done s (map (endpoint o) ss') p)) (wires_left eps (plus o done (poly_at o s g)) ss' gs' ps') put wire
      ∙ ap (λ l. map f before ++ wires_left eps done l (g ∷ gs') (p ∷ ps')) (sym is)
      ∙ ap (λ l. map f before ++ wires_left eps done ss l (p ∷ ps')) (sym is')
      ∙ ap (λ l. map f before ++ wires_left eps done ss gs l) (sym is'')
      ∙ so_far

  module _ (m : Unmixing) where
    -- the masks that are to come
    pub no-masks : (done : ℕ) (es gs : List ℕ) (ps : List Piece) (ws : List (List ℕ)) → es ≡ [] → explained_masks o m done es gs ps ws ≡ []
    unfolding explained_masks
    no-masks done [] gs ps ws none = refl
    no-masks done (e ∷ es) gs ps ws none = absurd (omega (arith, ap length none))

    -- one mask more
    pub mask-more : {A : Type 0} (f : A → List ℕ) (done done' : ℕ) (es es' gs gs' : List ℕ) (ps ps' : List Piece) (ws ws' : List (List ℕ)) (e g : ℕ) (p : Piece) (w : List ℕ)
        (before after : List A) (s : A) (all : List (List ℕ)) → es ≡ e ∷ es' → gs ≡ g ∷ gs' → ps ≡ p ∷ ps' → ws ≡ w ∷ ws' → after ≡ before ++ s ∷ [] →
        f s ≡ explained_mask o m done e es' p w → done' ≡ plus o done (poly_at o (f s) g) →
        map f before ++ explained_masks o m done es gs ps ws ≡ all → map f after ++ explained_masks o m done' es' gs' ps' ws' ≡ all
    unfolding explained_masks
    mask-more f done done' es es' gs gs' ps ps' ws ws' e g p w before after s all is is' is'' is''' put mask more so_far =
        let t = explained_mask o m done e es' p w in
        ap (λ d. map f after ++ explained_masks o m d es' gs' ps' ws') (more ∙ ap (λ c. plus o done (poly_at o c g)) mask)
        ∙ moved f before after s t (explained_masks o m (plus o done (poly_at o t g)) es' gs' ps' ws') put mask
        ∙ ap (λ l. map f before ++ explained_masks o m done l (g ∷ gs') (p ∷ ps') (w ∷ ws')) (sym is)
        ∙ ap (λ l. map f before ++ explained_masks o m done es l (p ∷ ps') (w ∷ ws')) (sym is')
        ∙ ap (λ l. map f before ++ explained_masks o m done es gs l (w ∷ ws')) (sym is'')
        ∙ ap (λ l. map f before ++ explained_masks o m done es gs ps l) (sym is''')
        ∙ so_far
