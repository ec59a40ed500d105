use Rattle.sc_small_fields.proofs.InverseLaws.{descent-none, descent-more}
use Rattle.sc_small_fields.proofs.prime.inverse_modulo.Goals as goal

pub loop-rest-init : goal.loop-rest-init
loop-rest-init c = descent-none c.args.modulus c.requires.prime c.args.value c.requires.positive c.requires.low

pub loop-rest-preserved : goal.loop-rest-preserved
loop-rest-preserved c =
    descent-more c.args.modulus c.requires.prime c.args.value c.loop-rest.factor c.loop-rest.rest c.loop-rest.invariant
    c.loop-rest-test.true
