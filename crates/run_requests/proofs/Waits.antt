-- The calls of a wait, one after another.
use Rattle.std.proofs.Common.{◌≡◌, ℕ, Bool, true, false, Option, List, [], ◌∷◌, ◌++◌, refl, sym, ◌∙◌, ap, subst}
use Rattle.std.specs.Prelude.{IsTrue, IsFalse}
use Rattle.std.specs.Option.{option_map_or}
use Rattle.run_specs.specs.history_the_Entry.{Entry}
use Rattle.run_specs.specs.history_Flat.{next_number}
use Rattle.run_specs.specs.script_the_Line_TheVariants.{Step, Wait}
use Rattle.run_specs.proofs.array_reply_specs_Fitting.{fits-steps}
use Rattle.run_specs.specs.Asked.{script_who, IsAskedAt, IsStillWaiting, IsWaitedFor}
use Rattle.run_specs.specs.Replies.{steps_at_once, leaves_more, leaves_more_at, IsReplyAt, IsWaitedAt, IsRepliedAt}
use Rattle.run_specs.specs.States.{AreByScript, IsWaitingAt}
use Rattle.run_specs.proofs.AskLaws.{one, entry_there, reply_at}
use Rattle.run_requests.proofs.Called.{HasCalled, called_none, called_then, called_once, called_apart, called_own, number_more}
use Rattle.run_specs.proofs.Growth.{reply_longer, leaves_longer}

-- what the reply of a call leaves to do
pub leaves_at : {size most place : ℕ} {old new : List Entry} (asked : IsAskedAt size (Step most) old new place) → leaves_more_at new place ≡ leaves_more asked.event
leaves_at asked = ap (λ (o : Option Entry). option_map_or (λ e. leaves_more e.event) o false) (entry_there asked)

-- one call more
pub waiting_more : {size place : ℕ} {between new : List Entry} (old : List Entry) (earlier : List ℕ) → IsStillWaiting size old earlier between → (asked : IsAskedAt size (Step steps_at_once) between new place) → IsTrue (leaves_more asked.event)
    → IsStillWaiting size old (earlier ++ place ∷ []) new
waiting_more {size = size} {place = place} {new = new} old [] same asked going =
    subst (λ (l : List Entry). (asked : IsAskedAt size (Step steps_at_once) l new place) → IsTrue (leaves_more asked.event) → IsStillWaiting size old (place ∷ []) new) (sym same) (λ asked going. (new, asked, going, refl)) asked going
waiting_more old (first ∷ others) (mid, one, more, rest) asked going = (mid, one, more, waiting_more mid others rest asked going)

pub waiting_called : (size : ℕ) (old new : List Entry) (earlier : List ℕ) → IsStillWaiting size old earlier new → HasCalled old new
waiting_called size old new [] same = called_none same
waiting_called size old new (first ∷ others) (mid, one, more, rest) = called_then (called_once one) (waiting_called size mid new others rest)

pub waited_called : {size place : ℕ} {old new : List Entry} → IsWaitedFor size old new place → HasCalled old new
waited_called {size = size} {old = old} was = called_then (waiting_called size old was.between was.earlier was.waiting) (called_once was.asked)

-- the replies to the calls of a wait that goes on
pub waiting_at : (size : ℕ) (old new : List Entry) (earlier : List ℕ) → AreByScript old old → IsStillWaiting size old earlier new
    → IsWaitingAt size new earlier (next_number 0 old) (next_number 0 new)
waiting_at size old new [] own same = ap (λ (l : List Entry). next_number 0 l) same
waiting_at size old new (first ∷ others) own (mid, one, more, rest) =
    let so_far = called_own (called_once one) own in
    let later = waiting_called size mid new others rest in (
      subst (λ (l : List Entry). IsReplyAt size l first (next_number 0 old) (Step steps_at_once)) (sym later.grown) (reply_longer later.more (called_apart later so_far) (reply_at one)),
      subst (λ (b : Bool). IsTrue b) (sym (ap (λ (l : List Entry). leaves_more_at l first) later.grown ∙ leaves_longer mid later.more first _ (entry_there one) ∙ leaves_at one)) more,
      subst (λ (n : ℕ). IsWaitingAt size new others n (next_number 0 new)) (number_more one) (waiting_at size mid new others so_far rest),
    )

-- the replies to its calls, over the whole history
waited_at : {size place : ℕ} {between new : List Entry} (old : List Entry) (earlier : List ℕ) → AreByScript old old → IsStillWaiting size old earlier between
    → (asked : IsAskedAt size (Step steps_at_once) between new place) → IsFalse (leaves_more asked.event) → IsWaitedAt size new earlier place (next_number 0 old)
waited_at {size = size} {place = place} {new = new} old [] own same asked done = (
  subst (λ (l : List Entry). IsReplyAt size new place (next_number 0 l) (Step steps_at_once)) same (reply_at asked),
  subst (λ (b : Bool). IsFalse b) (sym (leaves_at asked)) done,
)
waited_at {size = size} {place = place} {between = between} {new = new} old (first ∷ others) own (mid, one, more, rest) asked done =
    let so_far = called_own (called_once one) own in
    let later = called_then (waiting_called size mid between others rest) (called_once asked) in (
      subst (λ (l : List Entry). IsReplyAt size l first (next_number 0 old) (Step steps_at_once)) (sym later.grown) (reply_longer later.more (called_apart later so_far) (reply_at one)),
      subst (λ (b : Bool). IsTrue b) (sym (ap (λ (l : List Entry). leaves_more_at l first) later.grown ∙ leaves_longer mid later.more first _ (entry_there one) ∙ leaves_at one)) more,
      subst (λ (n : ℕ). IsWaitedAt size new others place n) (number_more one) (waited_at mid others so_far rest asked done),
    )

pub waited_reply : {size place : ℕ} {old new : List Entry} → AreByScript old old → IsWaitedFor size old new place → IsRepliedAt size new place (next_number 0 old) Wait
waited_reply {old = old} own was = (was.earlier, waited_at old was.earlier own was.waiting was.asked was.done)

-- ---- the array that is waited for

-- a call ended the wait, or didn't; how long the list was when it began doesn't matter
module _ {size now place : ℕ} {old mid new : List Entry} (so_far : (earlier : List ℕ) × IsStillWaiting size old earlier mid) (was : IsAskedAt now (Step steps_at_once) mid new place) where
  asked : IsAskedAt size (Step steps_at_once) mid new place
  asked = record {
    inner = was.inner;
    event = was.event;
    end = was.end;
    own = was.own;
    inside = was.inside;
    is = was.is;
    fits = fits-steps now size (mid ++ was.inner) (one (script_who mid) was.end was.event) steps_at_once was.fits;
    at_end = was.at_end;
  }

  pub waited_done : leaves_more_at new place ≡ false → IsWaitedFor size old new place
  waited_done done = record { earlier = so_far.0; between = mid; waiting = so_far.1; asked = asked; done = sym (leaves_at asked) ∙ done }

  pub waiting_on : leaves_more_at new place ≡ true → (earlier : List ℕ) × IsStillWaiting size old earlier new
  waiting_on more = (so_far.0 ++ place ∷ [], waiting_more old so_far.0 (so_far.1) asked (sym (leaves_at asked) ∙ more))
