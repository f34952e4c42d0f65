-- A side of the rank sheet.
use Rattle.std.proofs.Common.{◌≡◌, map, refl}
use Rattle.market.specs.declared.types.Side.{Side}
use Rattle.market.specs.declared.types.Side.TheVariants.{Buy, Sell}
use Rattle.market.specs.States.{State, on}
use Rattle.market.specs.Sheets.{sheet, line}

pub on-sheet : (d : Side) (s : State) → on d (sheet s) ≡ map line (on d s)
on-sheet Buy s = refl
on-sheet Sell s = refl
