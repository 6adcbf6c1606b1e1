-- The last entry of a history.
use Rattle.std.proofs.Common.{◌≡◌, ◌∙◌, ◌-◌, suc, [], ◌∷◌, Option, length, refl, ap, arith}
use Rattle.std.specs.Prelude.{slice_get}
use Rattle.seq_model.specs.Histories.{History}
use Rattle.seq_model.specs.declared.calls.Entry.{Entry}
use Rattle.plain_device.specs.Views.{last_reply, reply_in}

last_is : (history : History) → reply_in (slice_get history (length history - 1)) ≡ last_reply history
last_is [] = refl
last_is (e ∷ []) = refl
last_is (e ∷ next ∷ rest) =
    let less : length (e ∷ next ∷ rest) - 1 ≡ suc (length (next ∷ rest) - 1) = omega arith in
    ap (λ i. reply_in (slice_get (e ∷ next ∷ rest) i)) less ∙ last_is (next ∷ rest)

-- the reply of the last entry is that of the history
pub last_reply_is : (history : History) (found : Option Entry) → found ≡ slice_get history (length history - 1) → reply_in found ≡ last_reply history
last_reply_is history found is = ap reply_in is ∙ last_is history
