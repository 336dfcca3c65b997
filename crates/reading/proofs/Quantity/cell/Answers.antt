-- Each arm is its line of the definition.
use Rattle.std.proofs.Common.{sym, ap, ◌∙◌}
use Rattle.reading.specs.Cells.{cell_of}
use Rattle.reading.proofs.Quantity.cell.Goals as goal

pub returns-in-SignedPower : goal.returns-in-SignedPower
returns-in-SignedPower c = c.twos_quad.ensures ∙ ap cell_of (sym c.in-SignedPower.is)

pub returns-in-Energy : goal.returns-in-Energy
returns-in-Energy c = c.from-in-Energy.ensures ∙ ap cell_of (sym c.in-Energy.is)

pub returns-in-Factor : goal.returns-in-Factor
returns-in-Factor c = c.twos_quad-in-Factor.ensures ∙ ap cell_of (sym c.in-Factor.is)
