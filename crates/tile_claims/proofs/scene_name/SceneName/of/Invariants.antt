use Rattle.tile_claims.proofs.scene_name.SceneName.of.Given as goal

abbrev pub ghost-any : goal.ghost-any
ghost-any g a = g.scene
