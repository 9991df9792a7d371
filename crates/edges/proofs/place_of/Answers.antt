use native.Mathlib.Omega.{arith}
use lib.Dec.{ltb}
use lib.ListN.{get_or}
use borrow.Author.Rules.{rules}
use borrow.Author.Tests.{ltb-true, ltb-false}
use Rattle.std.proofs.lemmas.List.Sorted.{IsPartitionPoint-from_clause, IsPartitionedBy-ltb, IsNonDecreasingBy-from_default}
use Rattle.simulation.proofs.Ordered.{rising-take}
use Rattle.edges.proofs.Places.{rising_up, place_is}
use Rattle.edges.proofs.place_of.Goals as goal

pub returns : goal.returns
returns c =
    let es = c.args.edges.now in
    let code = c.args.code in
    let found = c.partition_point in
    let below =
    IsPartitionPoint-from_clause (λ y. ltb y code) es found.result found.ensures.partitioned
    (IsPartitionedBy-ltb (λ y. y) es code
    (IsNonDecreasingBy-from_default (λ y. y) es 0 (λ i j l m. rising_up es (rising-take es c.requires) i j l m)))
    (λ a r f' k. search rules) in
    place_is es code found.result found.ensures.bound
    (λ k l. ltb-true (get_or es k 0) code (below.0 k 0 (omega arith) l))
    (λ k l m. ltb-false (get_or es k 0) code (below.1 k 0 l m))
