use Rattle.std.proofs.Common.{length, map, sym, ap, ◌∙◌}
use Rattle.std.proofs.lemmas.List.{length-map}
use Rattle.std.proofs.lemmas.Result.{IfOk-weaker}
use Rattle.sc_zk_definitions.specs.Views.{view_of, later_endpoints}
use Rattle.sc_commitments.specs.Matrices.{numbers_in}
use Rattle.sc_zk_views.specs.Views.{pieces_in}
use Rattle.sc_zk_views.proofs.ShapeLaws.{masks-fit}
use Rattle.sc_zk_views.proofs.ViewLaws.{found-explains, found-count, found-only, lists-same}
use Rattle.sc_zk_views.proofs.explain.explain_masks.Goals as goal

pub returns-clause-explains : goal.returns-clause-explains
returns-clause-explains g c =
    let e = g.EF.Field in
    let a = c.args in
    let told = found-explains e.ops g.met.EF.Field.is_field e.number g.met.EF.Field.number_below c.requires.two (e.number a.eps) a.plain.now a.gammas.now a.view.now a.endpoints.now c.requires.fit in
    IfOk-weaker c.explained_masks.result _ _ (λ v is. ap (λ ss. view_of e.ops (e.number a.eps) ss (map e.number a.gammas.now) (pieces_in e.number a.plain.now)) is ∙ told.1) c.explained_masks.ensures

pub returns-clause-ends : goal.returns-clause-ends
returns-clause-ends g c =
    let e = g.EF.Field in
    let a = c.args in
    let told = found-explains e.ops g.met.EF.Field.is_field e.number g.met.EF.Field.number_below c.requires.two (e.number a.eps) a.plain.now a.gammas.now a.view.now a.endpoints.now c.requires.fit in
    IfOk-weaker c.explained_masks.result _ _ (λ v is. ap (later_endpoints e.ops) is ∙ told.2) c.explained_masks.ensures

pub returns-clause-shape : goal.returns-clause-shape
returns-clause-shape g c =
    let e = g.EF.Field in
    let a = c.args in
    let told = found-explains e.ops g.met.EF.Field.is_field e.number g.met.EF.Field.number_below c.requires.two (e.number a.eps) a.plain.now a.gammas.now a.view.now a.endpoints.now c.requires.fit in
    IfOk-weaker c.explained_masks.result _ _ (λ v is. lists-same e.ops _ _ _ (sym is) told.0) c.explained_masks.ensures

pub returns-clause-count : goal.returns-clause-count
returns-clause-count g c =
    let e = g.EF.Field in
    let a = c.args in
    let count = found-count e.ops g.met.EF.Field.is_field e.number g.met.EF.Field.number_below c.requires.two (e.number a.eps) a.plain.now a.gammas.now a.view.now a.endpoints.now c.requires.fit in
    IfOk-weaker c.explained_masks.result _ _ (λ v is. sym (length-map v.items (numbers_in e.number)) ∙ ap length is ∙ count) c.explained_masks.ensures

pub returns-clause-only : goal.returns-clause-only
returns-clause-only g c =
    let e = g.EF.Field in
    let a = c.args in
    let only = found-only e.ops g.met.EF.Field.is_field e.number g.met.EF.Field.number_below c.requires.two (e.number a.eps) a.plain.now a.gammas.now a.view.now a.endpoints.now c.requires.fit in
    IfOk-weaker c.explained_masks.result _ _ (λ v is ts count are view ends. only ts count are view ends ∙ sym is) c.explained_masks.ensures

pub returns-clause-fits : goal.returns-clause-fits
returns-clause-fits g c =
    let e = g.EF.Field in
    let a = c.args in
    let told = found-explains e.ops g.met.EF.Field.is_field e.number g.met.EF.Field.number_below c.requires.two (e.number a.eps) a.plain.now a.gammas.now a.view.now a.endpoints.now c.requires.fit in
    let count = found-count e.ops g.met.EF.Field.is_field e.number g.met.EF.Field.number_below c.requires.two (e.number a.eps) a.plain.now a.gammas.now a.view.now a.endpoints.now c.requires.fit in
    IfOk-weaker c.explained_masks.result _ _ (λ v is.
    masks-fit e.number e.ops a.plain.now a.gammas.now v.items a.view.now a.endpoints.now c.requires.fit
    (sym (length-map v.items (numbers_in e.number)) ∙ ap length is ∙ count) (lists-same e.ops _ _ _ (sym is) told.0)) c.explained_masks.ensures
