use Rattle.std.proofs.Common.{ℕ, List, ◌∙◌, rules, tests}
use Rattle.std.proofs.lemmas.Iterator.Consumers.{YieldsList-from_filter_map, YieldsList-from_rest, count_from_yields_List}
use Rattle.std.specs.Map.Iter.{deref_pair}
use Rattle.dev_types.specs.declared.values.Value.{Value}
use Rattle.kind_tables.specs.SceneObjects.{object_in}
use Rattle.param_stage.proofs.objects.objects_len.Goals as goal

pub returns-clause-len : goal.returns-clause-len
returns-clause-len c = count_from_yields_List c.filter_map.result c.count.result c.count.ensures.ran (YieldsList-from_filter_map {v = deref_pair {K = List ℕ} {X = Value}} _ (λ (entry : List ℕ × Value). object_in entry.1) (YieldsList-from_rest c.args.values.now.entries (c.filter_map.ensures.source ∙ c.iter.ensures.rest)) c.filter_map.ensures.closure (λ x r q k. search (rules, tests)))
