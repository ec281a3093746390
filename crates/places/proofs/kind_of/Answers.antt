use borrow.Author.Rules.{rules}
use Rattle.std.proofs.Common.{leb}
use Rattle.std.proofs.lemmas.List.Sorted.{IsPartitionPoint-from_clause, IsPartitionedBy-leb}
use Rattle.places.proofs.Laws.{some-kind, kind_is}
use Rattle.places.proofs.kind_of.Goals as goal

pub overflow_sub-result : goal.overflow_sub-result
overflow_sub-result c =
    let parted = IsPartitionedBy-leb (λ p. p) _ c.args.n c.requires.0 in
    some-kind c.args.starts.now c.requires.1.0 c.requires.1.1 (IsPartitionPoint-from_clause (λ p. leb p c.args.n) _ _ c.partition_point.ensures.partitioned parted (λ a r q k. search rules))

pub returns : goal.returns
returns c =
    let parted = IsPartitionedBy-leb (λ p. p) _ c.args.n c.requires.0 in
    kind_is c.args.starts.now c.requires.1.0 c.requires.1.1 (IsPartitionPoint-from_clause (λ p. leb p c.args.n) _ _ c.partition_point.ensures.partitioned parted (λ a r q k. search rules))
