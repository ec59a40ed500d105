-- Worked figures of masks, over the integers modulo 65537, by computation.
use Rattle.std.proofs.Common.{◌≡◌, [], ◌∷◌, refl}
use Rattle.sc_definitions.specs.Ring.{Ops, plus, times, opposite, power}
use Rattle.sc_definitions.specs.Residues.{residues}
use Rattle.sc_definitions.specs.Tables.{sum_below, digits}
use Rattle.sc_definitions.specs.Polynomials.{poly_at, poly_plus, poly_scaled}
use Rattle.sc_definitions.specs.Rounds.{claim_along}
use Rattle.sc_zk_definitions.specs.Masks.{masks_at, masks_total, powers_below, sum_of, endpoint, total_of, piece, masked_round, masked_rounds, masked_round_at, wire_of, unwired, next_target, first_target, target_after, aux_after}
use Rattle.sc_zk_definitions.specs.Views.{view_of}
use Rattle.sc_zk_definitions.specs.Explained.{unmixing, explained_mask, explained_masks, first_endpoint}

abbrev o : Ops
o = residues 65537

-- one mask of three coefficients over the plain piece 7 + 13 X^2, combined by 31; two masks at two
-- challenges, and the powers that make their values
one_mask :
    (masked_rounds o 31 0 ((2 ∷ 3 ∷ 5 ∷ []) ∷ []) (2 ∷ []) (piece 7 13 ∷ []) ≡ (219 ∷ 3 ∷ 408 ∷ []) ∷ [])
    × (wire_of (219 ∷ 3 ∷ 408 ∷ []) ≡ 219 ∷ 408 ∷ [])
    × (masks_at o ((2 ∷ 3 ∷ 5 ∷ []) ∷ (7 ∷ 11 ∷ 13 ∷ []) ∷ []) (17 ∷ 19 ∷ []) ≡ 6407)
    × (powers_below o 3 17 ≡ 1 ∷ 17 ∷ 289 ∷ [])
    × (powers_below o 3 19 ≡ 1 ∷ 19 ∷ 361 ∷ [])
unfolding masked_rounds masked_round total_of endpoint sum_of wire_of masks_at power poly_at poly_plus poly_scaled plus times opposite
one_mask = (refl, refl, refl, refl, refl)

-- two masks without a plain part, and what an observer sees of them
two_masks :
    (view_of o 1 ((1 ∷ 2 ∷ 3 ∷ []) ∷ (4 ∷ 5 ∷ 6 ∷ []) ∷ []) (2 ∷ 3 ∷ []) (piece 0 0 ∷ piece 0 0 ∷ [])
    ≡ record { mu = 52; wires = (21 ∷ 6 ∷ []) ∷ (21 ∷ 6 ∷ []) ∷ [] })
    × (endpoint o (4 ∷ 5 ∷ 6 ∷ []) ≡ 19)
    × (total_of o (7 ∷ 19 ∷ []) ≡ 52)
    × (masked_round_at o 1 ((1 ∷ 2 ∷ 3 ∷ []) ∷ (4 ∷ 5 ∷ 6 ∷ []) ∷ []) [] 1 (piece 0 0) 2 ≡ poly_at o (masked_round o 1 0 (1 ∷ 2 ∷ 3 ∷ []) (19 ∷ []) (piece 0 0)) 2)
unfolding view_of masks_total masked_round_at digits sum_below masked_rounds masked_round total_of endpoint sum_of wire_of masks_at power poly_at poly_plus poly_scaled plus times opposite
two_masks = (refl, refl, refl, refl)

-- the masks that explain that view: one half is 32769
explained_view :
    (first_endpoint o 32769 52 (19 ∷ []) ≡ 7)
    × (explained_masks o (unmixing 32769 1) 0 (7 ∷ 19 ∷ []) (2 ∷ 3 ∷ []) (piece 0 0 ∷ piece 0 0 ∷ []) ((21 ∷ 6 ∷ []) ∷ (21 ∷ 6 ∷ []) ∷ [])
    ≡ (1 ∷ 2 ∷ 3 ∷ []) ∷ (4 ∷ 5 ∷ 6 ∷ []) ∷ [])
    × (explained_masks o (unmixing 32769 31) 0 (first_endpoint o 32769 12 [] ∷ []) (2 ∷ []) (piece 7 13 ∷ []) ((219 ∷ 408 ∷ []) ∷ []) ≡ (2 ∷ 3 ∷ 5 ∷ []) ∷ [])
unfolding explained_masks explained_mask first_endpoint total_of sum_of power poly_at poly_scaled plus times opposite
explained_view = (refl, refl, refl)

-- a masked round over a claim: the table [1, 2] under the weights [1, 0] has the claim 1, aux is 4
-- and its half 2, the combination 31, the challenge 2
veiled :
    (masks_total o ((2 ∷ 3 ∷ 5 ∷ []) ∷ []) ≡ 12)
    × (masked_round o 31 0 (2 ∷ 3 ∷ 5 ∷ []) [] (piece 3 65536) ≡ 95 ∷ 3 ∷ 65511 ∷ [])
    × (target_after o (first_target o 31 5 12) ((95 ∷ 65511 ∷ []) ∷ []) (2 ∷ []) ≡ 65534)
    × (target_after o (first_target o 31 5 12) ((96 ∷ 65511 ∷ []) ∷ []) (2 ∷ []) ≡ 65531)
    × (masks_at o ((2 ∷ 3 ∷ 5 ∷ []) ∷ []) (2 ∷ []) ≡ 28)
    × (times o 31 (aux_after o 32769 4 1) ≡ 62)
unfolding masks_total digits sum_below masked_round total_of next_target claim_along unwired endpoint sum_of masks_at power poly_at poly_plus poly_scaled plus times opposite
veiled = (refl, refl, refl, refl, refl, refl)
