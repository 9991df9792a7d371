-- The admitted pairs of what the session holds, refined from all nodes, are the greatest simulation.
use mathlib.Core.Path.{refl}
use Rattle.session.specs.Limits.{max_nodes}
use Rattle.pair_tables.proofs.Zeros.{zeros}
use Rattle.refinement.proofs.Systems.{held_sound}
use Rattle.loading.proofs.Solving.{all_wait, held-inside, held_solved}
use Rattle.loading.proofs.solve.Goals as goal

pub invariant_of-net : goal.invariant_of-net
invariant_of-net c = record {
  sound = rw c.nodes.ensures.is (held_sound c.args.session.now c.nodes.ensures.held _ _ c.links.ensures.is c.edges.ensures.is);
  called = tt;
  started = tt;
  indexed = tt;
}

pub refine_indexed-requires : goal.refine_indexed-requires
refine_indexed-requires c =
    let a = c.admitted_pairs-trials.ensures in record {
      settled_len = (refl, a.long, refl);
      inside = rw c.nodes.ensures.is (held-inside c.args.session.now c.nodes.ensures.held _ _ a);
    }

pub returns : goal.returns
returns c =
    held_solved c.args.session.now c.nodes.ensures.held _ _ c.admitted_pairs-trials.ensures _ _ _ _ _ c.links.ensures.is c.edges.ensures.is
    (zeros max_nodes) all_wait (rw c.nodes.ensures.is at c.refine_indexed.ensures)
