-- What a basis and an order of the code are in definitions.
use Rattle.sc_definitions.specs.Tables.{Basis, evaluation, projective, Order, prefix, suffix}
use Rattle.sc_table.specs.declared.strategy.Basis.{Basis as BasisTag}
use Rattle.sc_table.specs.declared.strategy.Basis.TheVariants.{Evaluation, Projective}
use Rattle.sc_table.specs.declared.strategy.VariableOrder.{VariableOrder}
use Rattle.sc_table.specs.declared.strategy.VariableOrder.TheVariants.{Prefix, Suffix}

-- the basis that a tag names
abbrev pub basis_of : BasisTag → Basis
basis_of Evaluation = evaluation
basis_of Projective = projective

-- the order that a tag names
abbrev pub order_of : VariableOrder → Order
order_of Prefix = prefix
order_of Suffix = suffix
