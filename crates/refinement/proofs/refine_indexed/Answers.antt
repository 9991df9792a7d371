-- All indexes are built in tables that are zero; with them the refinement goes to its end.
use native.Mathlib.Omega.{arith}
use mathlib.Core.Path.{refl}
use Rattle.pair_tables.proofs.Zeros.{zeros}
use Rattle.refinement.proofs.Turns.{sound_below}
use Rattle.refinement.proofs.Settling.{refining_end}
use Rattle.session.specs.Limits.{max_nodes}
use Rattle.bits.specs.Word.{set_bits}
use Rattle.edge_indexes.specs.Indexes.{starts_size}
use Rattle.refinement.proofs.refine_indexed.Goals as goal

pub index_starts-requires : goal.index_starts-requires
index_starts-requires c =
    let net = c.args.net.now in
    record {
      edges_len_bound = (omega (arith, c.args.net.now.sound.few_edges), c.args.net.now.sound.ascend, sound_below net.nodes net.links.now net.edges.now c.args.net.now.sound, refl);
      by_index = zeros starts_size;
    }

pub index-requires : goal.index-requires
index-requires c =
    record {
      edges_len_bound = (omega (arith, c.args.net.now.sound.few_edges), refl, refl);
      by_index = zeros max_nodes;
    }

pub index_callers-requires : goal.index_callers-requires
index_callers-requires c =
    (omega (arith, c.args.net.now.sound.few_states), refl, zeros set_bits)

pub returns : goal.returns
returns c =
    let r = c.refine.ensures in
    refining_end _ _ _ c.args.net.now.sound _ _ _ _ _ _ r.refining (rw r.ended at r.lowest) c.requires.inside c.requires.settled_len.1
