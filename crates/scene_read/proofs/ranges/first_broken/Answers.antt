use Rattle.std.proofs.Common.{true, false, Some, sym, ap, ◌∙◌}
use Rattle.std.proofs.lemmas.List.{drop_all}
use Rattle.dev_types.specs.Bounded.{is_name}
use Rattle.kind_tables.specs.Ranges.{first_broken}
use Rattle.scene_read.proofs.ListFacts.{list_all-map_at}
use Rattle.scene_read.proofs.TestFacts.{first_broken_from}
use Rattle.scene_read.specs.Tested.{test_of, tests_in}
use Rattle.scene_read.proofs.ranges.first_broken.Goals as goal

pub of-requires : goal.of-requires
of-requires c = list_all-map_at test_of (λ test. is_name test.0) c.args.tests.now c.loop-name.name-index _ c.loop-name-test.true c.requires

pub returns-then-not-holds : goal.returns-then-not-holds
returns-then-not-holds c =
    ap Some c.of.ensures ∙ sym (first_broken_from c.args.tests.now c.loop-name.name-index _ false c.loop-name-test.true c.if-not-holds.true) ∙ c.loop-name.invariant

pub loop-name-preserved : goal.loop-name-preserved
loop-name-preserved c =
    sym (first_broken_from c.args.tests.now c.loop-name.name-index _ true c.loop-name-test.true c.if-not-holds.false) ∙ c.loop-name.invariant

pub returns : goal.returns
returns c = ap (λ ts. first_broken (tests_in ts)) (sym (drop_all c.loop-name.name-index c.args.tests.now c.loop-name-test.false)) ∙ c.loop-name.invariant
