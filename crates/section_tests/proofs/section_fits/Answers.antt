-- `section_fits` meets its contract: the words of each part are tested together.
use Prim.Native.Nat.{◌-◌}
use borrow.Author.Rules.{rules}
use native.Mathlib.Omega.{arith}
use mathlib.Core.Path.{◌≡◌, ◌∙◌}
use lib.ListN.{length, take, drop, length-drop}
use lib.Seq.{take_all}
use Rattle.session.proofs.Tables.{fits_gathered}
use Rattle.bits.specs.Word.{set_bits}
use Rattle.section_tests.proofs.section_fits.Goals as goal

pub returns : goal.returns
returns c =
    let xs = c.args.place.now in
    let used = c.args.used in
    let inside = c.gathered-inside in
    let unused = c.gathered-unused in
    let rest : take (length xs - used) (drop used xs) ≡ drop used xs =
    take_all (length xs - used) (drop used xs) (omega (arith, length-drop used xs)) in
    c.unions_fit.ensures
    ∙ fits_gathered set_bits c.args.k used inside.result unused.result xs c.requires.0 (search rules) inside.ensures
    (rw rest at unused.ensures)
