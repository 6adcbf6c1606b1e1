use Rattle.std.proofs.Common.{ℕ, List, ◌∙◌, sym, rules, tests}
use Rattle.std.proofs.lemmas.Iterator.Adapters.{option_map_id}
use Rattle.std.proofs.lemmas.Iterator.Consumers.{YieldsList-from_filter_map, YieldsList-from_rest, nth_from_yields_List}
use Rattle.std.specs.Map.Iter.{deref_pair}
use Rattle.dev_types.specs.declared.values.Value.{Value}
use Rattle.kind_tables.specs.SceneObjects.{object_in}
use Rattle.param_stage.proofs.objects.nth_object.Goals as goal

pub returns : goal.returns
returns c = sym (option_map_id _) ∙ nth_from_yields_List c.nth.result _ _ c.nth.ensures.ran (YieldsList-from_filter_map {v = deref_pair {K = List ℕ} {X = Value}} _ (λ (entry : List ℕ × Value). object_in entry.1) (YieldsList-from_rest c.args.values.now.entries (c.filter_map.ensures.source ∙ c.iter.ensures.rest)) c.filter_map.ensures.closure (λ x r q k. search (rules, tests)))
