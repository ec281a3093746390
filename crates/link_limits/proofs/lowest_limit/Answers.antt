use borrow.Author.Rules.{rules}
use mathlib.Core.Path.{sym, ap, ◌∙◌}
use Prim.Native.Nat.{ℕ}
use native.Mathlib.Omega.{arith}
use Rattle.std.specs.Prelude.{Option}
use Rattle.std.specs.Option.{unwrap_or}
use Rattle.std.proofs.iter.runs.Sources.{ranges}
use Rattle.std.proofs.lemmas.Iterator.{YieldsList-from_range, YieldsList-from_map}
use Rattle.std.proofs.lemmas.Iterator.Adapters.{option_map_id}
use Rattle.std.proofs.lemmas.Iterator.Consumers.{min_from_yields_List}
use Rattle.model.specs.Data.{read, tl}
use Rattle.link_limits.proofs.Laws.{lowest_is}
use Rattle.link_limits.proofs.lowest_limit.Goals as goal

pub returns : goal.returns
returns c =
    let n = c.args.tables.now.counts.seasons in
    let f : ℕ → ℕ = λ q. tl (read c.args.tables.now.list.now) c.args.y c.args.u c.args.z q in
    let least-is = sym (option_map_id c.min.result) ∙ min_from_yields_List c.map.result c.min.result c.min.ensures.ran (YieldsList-from_map _ f (YieldsList-from_range 0 n n c.map.ensures.source (omega arith)) c.map.ensures.closure (λ q r p k. search rules)) in
    (c.unwrap_or.ensures ∙ ap (λ (o : Option ℕ). unwrap_or o 0) least-is ∙ lowest_is f n, search (rules, ranges))
