-- What clauses see of shapes and strategies.
use Rattle.std.specs.Prelude.{ℕ}
use Rattle.sc_table.specs.declared.strategy.VariableOrder.{VariableOrder}
use Rattle.sc_layout.specs.declared.shape.TableShape.{TableShape}
use Rattle.sc_layout.specs.declared.shape.LayoutStrategy.{LayoutStrategy}

-- how many variables a table of the shape has
abbrev pub shape_variables : TableShape → ℕ
shape_variables s = s.num_variables

-- the order of a strategy
abbrev pub strategy_order : LayoutStrategy → VariableOrder
strategy_order s = s.order
