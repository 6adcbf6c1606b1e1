use Rattle.scene_tests.proofs.renders.naming.Given as goal

abbrev pub ghost-of : goal.ghost-of
ghost-of a = a._about.now
