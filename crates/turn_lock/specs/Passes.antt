-- What contracts see of a pass, and of a state that is in hand.
use Rattle.std.specs.Prelude.{◌≡◌, ℕ, List, Option, Bool, true}
use Rattle.turn_lock.specs.declared.journaled.Journaled.{Ghosts}
use Rattle.turn_lock.specs.declared.view.Share.{Share}
use Rattle.turn_lock.specs.declared.view.View.{View}
use Rattle.turn_lock.specs.declared.pass.Pass.{Pass}
use Rattle.turn_lock.specs.declared.turn.Turn.{Turn}
use Rattle.turn_lock.specs.declared.turn.Held.{Held}
use Rattle.turn_lock.specs.Views.{view_in}

module _ {E F : Type 0} where
  -- the pass's caller number
  abbrev pub caller_number : Pass E F → ℕ
  caller_number p = p.caller

  -- whether its state is in hand. Then the next four are told by what is in hand, as `known`
  abbrev pub holding : Pass E F → Bool
  holding p = p.holding

  -- the history as far as the pass has seen it
  abbrev pub seen : Pass E F → List E
  seen p = (view_in p.badge.views).seen

  -- the rising places in it of the entries that were made with the pass
  abbrev pub mine : Pass E F → List ℕ
  mine p = (view_in p.badge.views).mine

  -- its share of the turn
  abbrev pub share : Pass E F → Share
  share p = (view_in p.badge.views).share

  -- the data of the state that no call changes
  abbrev pub fixed : Pass E F → Option F
  fixed p = (view_in p.badge.views).fixed

module _ {S E F : Type 0} where
  -- the pass is one of this turn
  abbrev pub IsPassOf : Turn S E F → Pass E F → Type 0
  IsPassOf turn p = p.badge.table_id ≡ turn.table.shared.table_id

module _ {S E F : Type 0} {J : Ghosts S E F} where
  -- what the pass knows whose state is in hand
  abbrev pub known : Held S E F J → View E F
  known h = h.seat.me.0

  -- the history as it was when the state was taken in hand
  abbrev pub entered : Held S E F J → List E
  entered h = (known h).entered

  -- the state in hand is of this turn, and this pass took it
  pub record IsHeldOf (turn : Turn S E F) (p : Pass E F) (h : Held S E F J) : Type 0 where
    pub turn_is : h.seat.table_id ≡ turn.table.shared.table_id
    pub pass_is : p.badge ≡ h.stub.value
    pub taken : p.holding ≡ true
