-- The lines of one side of a board.
use Rattle.std.specs.Prelude.{ℕ, List, Option}
use Rattle.std.specs.List.{find}
use Rattle.market.specs.declared.types.Quotation.{Quotation}
use Rattle.market.specs.States.{venue_is}

-- the line of a venue, or none
abbrev pub of_venue : ℕ → List Quotation → Option Quotation
of_venue v qs = find (venue_is v) qs
