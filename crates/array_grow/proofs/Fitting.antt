-- The reply to a request to grow fits it.
use Rattle.std.proofs.Common.{◌≤◌, append-nil, ◌≡◌, ℕ, Bool, true, take, take_all, Option, Some, None, List, [], ◌∷◌, ◌++◌, length, sym, ◌∙◌, ap, subst, arith}
use Rattle.std.specs.Prelude.{IfSome, MatchBool, MatchOption, option_map, ⊤}
use Rattle.std.specs.Option.{option_map_or}
use Rattle.std.proofs.lemmas.List.Sums.{fold-append}
use Rattle.array_reply_specs.specs.raid_types_the_Refusal.{Refusal}
use Rattle.array_reply_specs.specs.raid_types_the_Who.{Who}
use Rattle.array_reply_specs.specs.raid_types_the_Shape.{Shape}
use Rattle.array_reply_specs.specs.raid_types_the_Wish.{Wish}
use Rattle.array_reply_specs.specs.bank_the_Operation.{Operation}
use Rattle.array_reply_specs.specs.bank_Given.{Given, Sizes, sizes}
use Rattle.array_transition.specs.reshape_plan_Plans.{phases, phases_steps}
use Rattle.array_transition.specs.sb_specs_the_Members.{Members}
use Rattle.array_transition.specs.sb_specs_Reading.{Scope, Reading, shape_of, list_length}
use Rattle.array_reply_specs.specs.history_the_Entry.{Entry}
use Rattle.array_reply_specs.specs.history_the_Event.{Event}
use Rattle.array_reply_specs.specs.history_the_Event_TheVariants.{Planned, Refused}
use Rattle.array_reply_specs.specs.history_the_Request.{Request}
use Rattle.array_reply_specs.specs.history_the_Request_TheVariants.{Grow as AsksGrow}
use Rattle.array_transition.specs.history_Fits.{Fits, Answers, AreTornOf, WhereAsked, is_asked, phases_after, phases_left}
use Rattle.array_reply_specs.specs.history_Growing.{EndBy}
use Rattle.array_reply_specs.specs.history_Flat.{limit_of, next_number}
use Rattle.array_transition.specs.history_Plain.{entries_of}
use Rattle.array_transition.specs.history_World.{World, until, reading_at, opening_list}
use Rattle.array_transition.specs.array_members_the_Work.{Work}
use Rattle.array_reply_specs.proofs.array_call_specs_ReplyLaws.{none_before}
use Rattle.array_transition.specs.reshape_request_Asked.{Asked, asked_of, IsFirst, IsUngrowable, grow_refusal}
use Rattle.array_transition.specs.reshape_request_Fitting.{IsToldBy, IsReadLike, SaysSameShape}
use Rattle.array_transition.proofs.reshape_request_FirstLaws.{judged}
use Rattle.array_transition.proofs.reshape_request_FitLaws.{refusals-fit, plans-fit}
use Rattle.array_transition.specs.history_invariant_Recorded.{entry_of}
use Rattle.array_transition.specs.history_invariant_Safe.{world_in, IsFilledRight}
use Rattle.array_transition.proofs.history_invariant_Turned.{filled-before}
use Rattle.array_reply_specs.specs.history_invariant_laws_Reliable.{IsReliable}
use Rattle.array_transition.specs.array_fixed_invariant_Still.{AreNoneMissing, IsStill}
use Rattle.array_transition.specs.array_specs_Parts.{visible_size}
use Rattle.array_transition.proofs.array_specs_VisibleLaws.{visible-is}
use Rattle.array_grow.specs.Planned.{IsReadWhereAsked, ArePhasesTold}
use Rattle.array_grow.proofs.Read.{read-whole}

-- ---- what the history tells before it

pub where-is : (world : World) (before : List Entry) (end : ℕ) (Fact : Reading → Type 0) → WhereAsked world before end Fact → (r : Reading) → reading_at world end ≡ Some r → is_asked world before r ≡ true → Fact r
where-is world before end Fact all r is asked =
    subst (λ (b : Bool). MatchBool b (Fact r) ⊤) asked (subst (λ (o : Option Reading). IfSome o (λ r. MatchBool (is_asked world before r) (Fact r) ⊤)) is all)

same-reading : (o : Option Reading) (q r : Reading) → o ≡ Some q → o ≡ Some r → q ≡ r
same-reading o q r one two = let both : ◌≡◌ {A = Option Reading} (Some q) (Some r) = sym one ∙ two in cc

module _ {tells : Type 0} {given : Given} {tape : List Operation} {scope : Scope} {first : ℕ} {entries : List Entry} {m : Members} {work : Work} {left : ℕ} (phases : ℕ) (end : ℕ)
    (was : IsStill tells given tape scope first entries m work left) {limit : Option ℕ} (limited : limit_of entries ≡ limit) (t : tells) (right : IsReliable (world_in given tape scope first) entries)
    (at_end : end ≡ length tape) (ahead : ArePhasesTold (world_in given tape scope first) entries phases) (read : IsReadWhereAsked (world_in given tape scope first) entries end m) where
  abbrev world : World
  world = world_in given tape scope first

  pub told-by : IsToldBy (world_in given tape scope first) entries end (asked_of m work.resync phases (visible_size m limit) (option_map (sizes given).sectors scope.backup))
  told-by = record {
    asked = λ r is asked. where-is world entries end (λ r. IsReadLike r m) read r is asked;
    whole = λ r is whole.
        let found = read-whole was t right whole in
        let same = same-reading (reading_at world (length tape)) found.0 r found.1 (sym (ap (λ (n : ℕ). reading_at world n) at_end) ∙ is) in
        subst (λ (q : Reading). SaysSameShape q.newest m.newest) same found.2;
    gone = λ role lt miss. was.gone t right role lt miss;
    unsynced = was.pending t;
    phases_are = ahead;
    visible_is = visible-is (length (opening_list world)) (list_length m.newest) limit entries (was.recorded t).sized limited;
    backup_is = ap (λ (s : Sizes). option_map s.sectors scope.backup) (sym was.sizes_are);
  }

-- ---- the reply

until-now : (world : World) (end : ℕ) → end ≡ length world.tape → until end world ≡ world
until-now world end is =
    let all : take end world.tape ≡ world.tape = ap (λ (n : ℕ). take n world.tape) is ∙ take_all (length world.tape) world.tape (omega arith) in
    λ i. record { start = world.start; tape = all i; scope = world.scope; first = world.first }

-- what answers a request fits it, where the call begins with it
pub reply-fits : (world : World) (before : List Entry) (who : Who) (end : ℕ) (request : Request) (event : Event) → who.number ≡ next_number who.caller before → end ≡ length world.tape
    → Answers world before (entry_of who end event) request event → Fits world before (entry_of who end event) request
reply-fits world before who end request event number at_end answers = record {
  answers = subst (λ (w : World). Answers w before (entry_of who end event) request event) (sym (until-now world end at_end)) answers;
  torn = subst (AreTornOf request) (sym (none_before before who end event number)) tt;
}

pub first-of : (a : Asked) (wish : Wish) (refusal : Refusal) → grow_refusal a wish ≡ Some refusal → IsFirst a wish refusal
first-of a wish refusal is = subst (λ (o : Option Refusal). MatchOption o ((r : Refusal) → IsUngrowable a wish r → ⊥) (IsFirst a wish)) is (judged a wish)

pub refusal-fits : (world : World) (before : List Entry) (who : Who) (end : ℕ) (a : Asked) (wish : Wish) (refusal : Refusal) → who.number ≡ next_number who.caller before → end ≡ length world.tape
    → IsToldBy world before end a → grow_refusal a wish ≡ Some refusal → Fits world before (entry_of who end (Refused refusal)) (AsksGrow wish)
refusal-fits world before who end a wish refusal number at_end told is =
    reply-fits world before who end (AsksGrow wish) (Refused refusal) number at_end (refusals-fit world before end a wish refusal told (first-of a wish refusal is))

pub plan-fits : (world : World) (before : List Entry) (who : Who) (end : ℕ) (a : Asked) (wish : Wish) (left : ℕ) → who.number ≡ next_number who.caller before → end ≡ length world.tape
    → IsToldBy world before end a → grow_refusal a wish ≡ None → left ≡ phases_steps (shape_of a.members.newest) a.members.newest.size (phases (shape_of a.members.newest) wish)
    → Fits world before (entry_of who end (Planned left wish)) (AsksGrow wish)
plan-fits world before who end a wish left number at_end told none steps =
    reply-fits world before who end (AsksGrow wish) (Planned left wish) number at_end (plans-fit world before (entry_of who end (Planned left wish)) a wish left told none steps)

-- ---- the phases that it tells

pub right-before : (world : World) (entries added : List Entry) → world.first ≤ length world.tape → EndBy (length world.tape) entries → IsReliable world (entries ++ added) → IsReliable world entries
right-before world entries added begun ends right = record {
  fills = filled-before world [] entries added begun ends
      (subst (λ (l : List Operation). IsFilledRight (record { start = world.start; tape = l; scope = world.scope; first = world.first }) (entries ++ added)) (sym (append-nil world.tape)) right.fills);
  room = right.room;
}

pub phases-told : {tells : Type 0} {given : Given} {tape : List Operation} {scope : Scope} {first : ℕ} {entries : List Entry} {m : Members} {work : Work} {left : ℕ} (who : Who) (end : ℕ) (wish : Wish) (steps : ℕ)
    → IsStill tells given tape scope first entries m work left → AreNoneMissing m → (tells → end ≡ length tape)
    → tells → IsReliable (world_in given tape scope first) (entries ++ entries_of who end (Planned steps wish ∷ []))
    → phases_left (world_in given tape scope first) (entries ++ entries_of who end (Planned steps wish ∷ [])) ≡ length (phases (shape_of m.newest) wish)
phases-told {given = given} {tape = tape} {scope = scope} {first = first} {entries = entries} {m = m} who end wish steps was whole at_end t right =
    let world = world_in given tape scope first in
    let recorded = was.recorded t in
    let found = read-whole was t (right-before world entries (entries_of who end (Planned steps wish ∷ [])) recorded.begun recorded.ends right) whole in
    fold-append (λ n e. phases_after world n e e.event) 0 entries (entries_of who end (Planned steps wish ∷ []))
    ∙ ap (λ (n : ℕ). option_map_or (λ r. length (phases (shape_of r.newest) wish)) (reading_at world n) 0) (at_end t)
    ∙ ap (λ (o : Option Reading). option_map_or (λ r. length (phases (shape_of r.newest) wish)) o 0) found.1
    ∙ ap (λ (s : Shape). length (phases s wish)) found.2.shape
