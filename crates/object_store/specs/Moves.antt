-- How the counts of objects move as names are made and end.
use Rattle.std.specs.Prelude.{◌≡◌, ℕ, ◌+◌, List, None, Some}
use Rattle.std.specs.Option.{is_some}
use Rattle.handle_table.specs.HandleMaps.{HandleMap, value_at, with_value}
use Rattle.param_stage.specs.Params.{Accounts, ParamMaps}
use Rattle.ref_counts.specs.CountMaps.{CountMap, counts_at, entry_at, named_at, public_at}
use Rattle.dev_types.specs.Counting.{times}
use Rattle.object_store.specs.Parts.{Part}

-- the new counts are the old ones with so many more names, and without those that are gone
pub record Moves (old new : CountMap) (added gone : List ℕ) : Type 0 where
  pub named : (h : ℕ) → named_at new h + times h gone ≡ named_at old h + times h added
  pub public : (h : ℕ) → public_at new h ≡ public_at old h
  pub there : (h : ℕ) → is_some (counts_at new h) ≡ is_some (counts_at old h)
  pub unborn : (h : ℕ) → entry_at old h ≡ None → entry_at new h ≡ None

-- the parameters of the object at a handle, which is there, are changed, and so many more and fewer objects are named
pub record Restages (old new : HandleMap Part) (h : ℕ) (change : ParamMaps → ParamMaps) (added gone : List ℕ) : Type 0 where
  pub part : Part
  pub there : value_at old h ≡ Some part
  pub changed : new ≡ with_value old h (record part { params = change part.params })
  pub accounts : Accounts part.params (change part.params) added gone

-- what is kept of the object at a handle, which is there, is changed
pub record Reslots (old new : HandleMap Part) (h : ℕ) (change : Part → Part) : Type 0 where
  pub part : Part
  pub there : value_at old h ≡ Some part
  pub changed : new ≡ with_value old h (change part)
