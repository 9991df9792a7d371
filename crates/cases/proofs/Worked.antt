-- The one fact over all rows.
use mathlib.Core.Path.{refl}
use Rattle.simulation.specs.Sets.{any_below, all_below, count, shrunk, down, grown, up}
use Rattle.simulation.specs.System.{greatest, supported, closure, reaches}
use Rattle.simulation.specs.Pattern.{best}
use Rattle.simulation.specs.Ordered.{elem, insert, remove, joins}
use Rattle.session.specs.Trigger.{linked, edge, agrees, matches, accepts, admits}
use Rattle.session.specs.Reached.{reached}
use Rattle.session.specs.Layout.{table, below}
use Rattle.listing.specs.Changes.{join_to, changes}
use Rattle.listing.specs.Order as walk
use Rattle.promises.specs.Standing.{stands, fires, trial_set}
use Rattle.promises.specs.Rules.{verdict}
use Rattle.promises.specs.Model.{step}
use Rattle.cases.specs.Cases.{Fact, Every, none, ◌and◌, cases, session, alone, nowhere, loop, ring, spare, unmasked, half, hunted, turned, blank, blank_ring, other_half, links_back, ring_away, chain, to_the_last, seventeen, thirty_two}
use Rattle.cases.proofs.Predicted.{Right, is_right, predicted, loaded, every}
use Rattle.cases.proofs.Full.{right-full}

-- each row but the one of 2,048 edges is computed
right : Every Right cases
unfolding cases session alone nowhere loop ring spare unmasked half hunted turned blank blank_ring other_half links_back ring_away chain to_the_last predicted loaded verdict step table below insert remove joins elem edge linked
    admits accepts matches agrees reached fires stands best greatest supported shrunk down any_below all_below count changes join_to trial_set closure grown up reaches
    walk.order walk.visit walk.fold
right =
    is_right session refl refl
    and is_right alone refl refl
    and is_right nowhere refl refl
    and is_right loop refl refl
    and is_right ring refl refl
    and is_right spare refl refl
    and is_right unmasked refl refl
    and right-full
    and is_right half refl refl
    and is_right hunted refl refl
    and is_right turned refl refl
    and is_right blank refl refl
    and is_right blank_ring refl refl
    and is_right other_half refl refl
    and is_right links_back refl refl
    and is_right ring_away refl refl
    and is_right chain refl refl
    and is_right seventeen refl refl
    and is_right thirty_two refl refl
    and none

-- every row: each run of it that keeps the promises tells what the row says
pub worked : Every Fact cases
worked = every right
