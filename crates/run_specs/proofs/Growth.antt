-- The replies to several lines, as the histories grow.
use Rattle.std.proofs.Common.{◌≡◌, ◌≢◌, ◌⊎◌, inl, inr, ℕ, zero, suc, ◌+◌, ◌*◌, ◌<◌, ◌≤◌, Bool, true, false, Option, Some, None, List, [], ◌∷◌, ◌++◌, length, take, drop, refl, sym, ◌∙◌, ap, subst, arith, append_assoc, length-append, ne_eqb}
use Rattle.std.proofs.lemmas.List.{take-append-le, drop-append-le}
use Rattle.std.proofs.lemmas.Option.{slice_get_within}
use Rattle.std.specs.Prelude.{slice_get, MatchOption, MatchBool, if◌then◌else◌, IfSome, IsSome, IsTrue, IsFalse, nat_lt}
use Rattle.std.specs.Option.{option_and_then, option_map_or}
use Rattle.array_requests.specs.bank_Given.{Given, sizes, NeverFalls}
use Rattle.array_requests.specs.bank_the_Operation.{Operation}
use Rattle.array_requests.specs.bank_Tape.{Contents, contents}
use Rattle.array_requests.proofs.bank_Laws.{contents-earlier}
use Rattle.array_requests.specs.raid_types_the_Fault_TheVariants.{Refused as IsRefusedWith}
use Rattle.array_requests.specs.raid_types_the_Refusal.{Refusal}
use Rattle.array_requests.specs.raid_types_the_Refusal_TheVariants.{NoSuchSlot, SlotFault}
use Rattle.array_requests.specs.raid_types_the_Status.{Status}
use Rattle.array_requests.specs.raid_types_Sectors.{Sector}
use Rattle.array_requests.specs.raid_types_Shapes.{data_disks, has_slot}
use Rattle.script.specs.sb_codec_the_Sb.{Sb}
use Rattle.script.specs.sb_codec_Superblock.{superblock_in}
use Rattle.script.specs.history_World.{World, opening_list}
use Rattle.script.specs.history_Opened.{OpensSound}
use Rattle.script.specs.history_Growing.{grown}
use Rattle.array_requests.specs.array_members_Moving.{Grows}
use Rattle.array_requests.specs.array_create_assemble_Creating.{create_refusal}
use Rattle.array_requests.specs.array_create_assemble_Opening.{AreGiven, HasFoundNone, array_of, scope_of}
use Rattle.array_requests.specs.array_create_assemble_Made.{HasCreateCause, used_slot}
use Rattle.array_requests.specs.array_create_assemble_Running.{OpensWithZeros}
use Rattle.std.specs.List.{All}
use Rattle.std.proofs.lemmas.List.Elements.{All-nil, All-cons, All-head, All-tail}
use Rattle.array_requests.specs.array_create_assemble_the_CreateSpec.{CreateSpec}
use Rattle.script.specs.declared.lines.Line.TheVariants.{Create, Read, Write, Flush, Fail, Add, ArraySize, Grow, Step, Wait, Stop, Halt, Detail, Mdstat, Alerts, Examine, Assemble}
use Rattle.script.specs.history_the_Entry.{Entry}
use Rattle.script.specs.history_the_Event_TheVariants.{Shown}
use Rattle.script.specs.history_the_Request.{Request}
use Rattle.script.specs.history_Plain.{entries_of}
use Rattle.array_requests.specs.array_call_specs_Adopting.{opener}
use Rattle.script.specs.history_Flat.{rest_of_call, is_same_call, number_after, length_of}
use Rattle.script.specs.Script.{is_of_worker}
use Rattle.script.specs.declared.lines.Line.{Line}
use Rattle.script.specs.declared.lines.Numbered.{Numbered}
use Rattle.script.specs.declared.reply.Lane.{Lane}
use Rattle.script.specs.declared.reply.Lane.TheVariants.{Script as InScript, A as InA, B as InB, Worker as InWorker}
use Rattle.run_specs.specs.declared.report.Outside.TheVariants.{Created, Assembled, Examined, Alerts as ToldAlerts, Refused}
use Rattle.run_specs.specs.declared.report.Answered.{Answered}
use Rattle.run_specs.specs.declared.report.Answered.TheVariants.{Inside, Outside as IsOutside}
use Rattle.run_specs.specs.declared.report.LineReply.{LineReply}
use Rattle.run_specs.specs.Blocks.{caller_of, IsCallersReply}
use Rattle.run_specs.specs.Histories.{History, entry_at}
use Rattle.run_specs.specs.Examining.{IsExaminedBy, IsUnexamined}
use Rattle.run_specs.specs.Making.{Setting, held_at, history_world, IsUncreated, IsUnassembled, IsStoredNew, IsStoredAs, BeginsShown}
use Rattle.run_specs.specs.Replies.{Course, spec_of, FitsLine, IsMadeBy, IsFoundBy, IsRefusedOutside, with_script, gone_on, longer_of, course_behind, entries_to, course_after, course_of, leaves_more, leaves_more_at, IsReplyAt, IsWaitedAt, IsRepliedAt, AreCallsTold, IsAnsweredInside, IsAnswer, most_turns, IsWorkedAt, IsWorked, IsRepliedBeside, IsAnswerBeside, IsAnswerIn, mark_reached, mark_shown, IsEnd, IsReplyTo, AreReplies}
use Rattle.array_requests.specs.array_reply_specs_Replies.{RunningFits, MayTellBy}
use Rattle.array_requests.specs.Turning.{may_be_active, may_be_ahead, IsTellable}
use Rattle.run_specs.specs.States.{IsGrown, AreGrown, IsNamed, IsWaitingAt, IsCutShort, IsBeside, IsStanding, HasWorkedOn, IsAmidBlock, IsPastMemory}
use Rattle.run_specs.proofs.Causes.{faulted-wider, given-wider, create-later, assemble-later}
use Rattle.run_specs.proofs.Worlds.{list-same, sound-later, new-later, stored-later}

rest_append : (e : Entry) (xs ys : List Entry) → rest_of_call e xs ≡ [] → rest_of_call e ys ≡ [] → rest_of_call e (xs ++ ys) ≡ []
rest_append e [] ys nothing after = after
rest_append e (x ∷ xs) ys nothing after = by_test (is_same_call e x) refl
  where
    by_test : (b : Bool) → is_same_call e x ≡ b → rest_of_call e ((x ∷ xs) ++ ys) ≡ []
    by_test true is = absurd (omega (arith, ap (λ (l : List Entry). length l) (sym (ap (λ (t : Bool). if t then x ∷ rest_of_call e xs else []) is) ∙ nothing)))
    by_test false is = ap (λ (t : Bool). if t then x ∷ rest_of_call e (xs ++ ys) else []) is

get_append : (xs ys : List Entry) (k : ℕ) (e : Entry) → slice_get xs k ≡ Some e → slice_get (xs ++ ys) k ≡ Some e
get_append [] ys k e is = absurd (omega (arith, slice_get_within [] k e is))
get_append (x ∷ xs) ys zero e is = is
get_append (x ∷ xs) ys (suc k) e is = get_append xs ys k e is

then_some : {A B : Type 0} (f : A → Option B) (o : Option A) (r : B) → option_and_then f o ≡ Some r → (a : A) × (o ≡ Some a) × (f a ≡ Some r)
then_some f None r is = absurd (cc)
then_some f (Some a) r is = (a, refl, is)

-- a history that is there goes on in the later ones
pub history_stays : (olds news : List History) → AreGrown olds news → (epoch : ℕ) (old : History) → slice_get olds epoch ≡ Some old → (new : History) × (slice_get news epoch ≡ Some new) × IsGrown old new
history_stays [] news grown epoch old is = absurd (omega (arith, slice_get_within [] epoch old is))
history_stays (h ∷ olds) [] grown epoch old is = absurd grown
history_stays (h ∷ olds) (k ∷ news) (one, more) zero old is = (k, refl, subst (λ (o : History). IsGrown o k) (cc) one)
history_stays (h ∷ olds) (k ∷ news) (one, more) (suc epoch) old is = history_stays olds news more epoch old is

-- a history that went on, and went on again
later_both : (xs ys one two : List Entry) → All (λ e. rest_of_call e one ≡ []) xs → All (λ e. rest_of_call e two ≡ []) (xs ++ ys) → All (λ e. rest_of_call e (one ++ two) ≡ []) xs
later_both [] ys one two first second = All-nil (λ e. rest_of_call e (one ++ two) ≡ [])
later_both (x ∷ xs) ys one two first second =
    All-cons (λ e. rest_of_call e (one ++ two) ≡ []) x xs (rest_append x one two (All-head (λ e. rest_of_call e one ≡ []) x xs first) (All-head (λ e. rest_of_call e two ≡ []) x (xs ++ ys) second))
    (later_both xs ys one two (All-tail (λ e. rest_of_call e one ≡ []) x xs first) (All-tail (λ e. rest_of_call e two ≡ []) x (xs ++ ys) second))

pub grown_then : (first second third : History) → IsGrown first second → IsGrown second third → IsGrown first third
grown_then first second third one two = record {
  uuid = two.uuid ∙ one.uuid;
  given = two.given ∙ one.given;
  first = two.first ∙ one.first;
  more = one.more ++ two.more;
  grown = two.grown ∙ ap (λ (l : List Entry). l ++ two.more) one.grown ∙ append_assoc first.entries one.more two.more;
  later = later_both first.entries one.more one.more two.more one.later (subst (λ (l : List Entry). All (λ e. rest_of_call e two.more ≡ []) l) one.grown two.later);
}

-- an entry stays where it is
pub named_stays : (olds news : List History) → AreGrown olds news → (epoch place : ℕ) (e : Entry) → entry_at olds epoch place ≡ Some e → entry_at news epoch place ≡ Some e
named_stays olds news grown epoch place e is =
    let was = then_some (λ (h : History). slice_get h.entries place) (slice_get olds epoch) e is in
    let now = history_stays olds news grown epoch was.0 (was.1) in
    ap (λ (o : Option History). option_and_then (λ h. slice_get h.entries place) o) (now.1)
    ∙ ap (λ (l : List Entry). slice_get l place) (now.2.grown) ∙ get_append was.0.entries now.2.more place e (was.2)

-- so do the entries up to it
pub to_stays : (olds news : List History) → AreGrown olds news → (epoch place : ℕ) (e : Entry) → entry_at olds epoch place ≡ Some e → entries_to news epoch place ≡ entries_to olds epoch place
to_stays olds news grown epoch place e is =
    let was = then_some (λ (h : History). slice_get h.entries place) (slice_get olds epoch) e is in
    let now = history_stays olds news grown epoch was.0 (was.1) in
    let within = slice_get_within was.0.entries place e (was.2) in
    ap (λ (o : Option History). option_map_or (λ h. take (place + 1) h.entries) o []) (now.1)
    ∙ ap (λ (l : List Entry). take (place + 1) l) (now.2.grown) ∙ take-append-le (place + 1) was.0.entries now.2.more (omega (arith, within))
    ∙ sym (ap (λ (o : Option History). option_map_or (λ h. take (place + 1) h.entries) o []) (was.1))

-- what holds of all holds of one
at_place : (P : Entry → Type 0) (entries : List Entry) (place : ℕ) (e : Entry) → All P entries → slice_get entries place ≡ Some e → P e
at_place P [] place e all is = absurd (omega (arith, slice_get_within [] place e is))
at_place P (x ∷ entries) zero e all is = subst P (some_same is) (All-head P x entries all)
  where
    some_same : {a b : Entry} → Some a ≡ Some b → a ≡ b
    some_same is = cc
at_place P (x ∷ entries) (suc place) e all is = at_place P entries place e (All-tail P x entries all) is

-- a reply stays one, as later calls are entered
pub reply_longer : {size : ℕ} {entries : List Entry} {place number : ℕ} {line : Line} (more : List Entry) → All (λ e. rest_of_call e more ≡ []) entries
    → IsReplyAt size entries place number line → IsReplyAt size (entries ++ more) place number line
reply_longer {size = size} {entries = entries} {place = place} {line = line} more later was =
    let within = slice_get_within entries place was.entry was.there in
    record {
      entry = was.entry;
      there = get_append entries more place was.entry was.there;
      caller = was.caller;
      numbered = was.numbered;
      last = ap (λ (l : List Entry). rest_of_call was.entry l) (drop-append-le (place + 1) entries more (omega (arith, within)))
          ∙ rest_append was.entry (drop (place + 1) entries) more was.last (at_place (λ e. rest_of_call e more ≡ []) entries place was.entry later was.there);
      fits = subst (λ (l : List Entry). FitsLine size l was.entry line) (sym (take-append-le place entries more (omega (arith, within)))) was.fits;
    }

pub leaves_longer : (entries more : List Entry) (place : ℕ) (e : Entry) → slice_get entries place ≡ Some e → leaves_more_at (entries ++ more) place ≡ leaves_more_at entries place
leaves_longer entries more place e is = ap (λ (o : Option Entry). option_map_or (λ e. leaves_more e.event) o false) (get_append entries more place e is ∙ sym is)

-- so do the replies to the calls of a wait
waited_longer : (size place : ℕ) (entries more : List Entry) → All (λ e. rest_of_call e more ≡ []) entries
    → (earlier : List ℕ) (number : ℕ) → IsWaitedAt size entries earlier place number → IsWaitedAt size (entries ++ more) earlier place number
waited_longer size place entries more later [] number (reply, ended) =
    (reply_longer more later reply, subst (λ (b : Bool). IsFalse b) (sym (leaves_longer entries more place reply.entry reply.there)) ended)
waited_longer size place entries more later (first ∷ others) number (reply, going, rest) = (
  reply_longer more later reply,
  subst (λ (b : Bool). IsTrue b) (sym (leaves_longer entries more first reply.entry reply.there)) going,
  waited_longer size place entries more later others (number + 1) rest,
)

replied_longer : (size place number : ℕ) (line : Line) (entries more : List Entry) → All (λ e. rest_of_call e more ≡ []) entries
    → IsRepliedAt size entries place number line → IsRepliedAt size (entries ++ more) place number line
replied_longer size place number Wait entries more later (earlier, was) = (earlier, waited_longer size place entries more later earlier number was)
replied_longer size place number line entries more later was = reply_longer more later was

-- the entry of a reply is there
waited_there : (size place : ℕ) (entries : List Entry) (earlier : List ℕ) (number : ℕ) → IsWaitedAt size entries earlier place number → (e : Entry) × (slice_get entries place ≡ Some e)
waited_there size place entries [] number (reply, ended) = (reply.entry, reply.there)
waited_there size place entries (first ∷ others) number (reply, going, rest) = waited_there size place entries others (number + 1) rest

replied_there : (size place : ℕ) (entries : List Entry) (line : Line) (number : ℕ) → IsRepliedAt size entries place number line → (e : Entry) × (slice_get entries place ≡ Some e)
replied_there size place entries Wait number (earlier, was) = waited_there size place entries earlier number was
replied_there size place entries line number was = (was.entry, was.there)

-- a wait that was cut short stays so
waiting_longer : (size : ℕ) (entries more : List Entry) → All (λ e. rest_of_call e more ≡ []) entries
    → (earlier : List ℕ) (number next : ℕ) → IsWaitingAt size entries earlier number next → IsWaitingAt size (entries ++ more) earlier number next
waiting_longer size entries more later [] number next same = same
waiting_longer size entries more later (first ∷ others) number next (reply, going, rest) = (
  reply_longer more later reply,
  subst (λ (b : Bool). IsTrue b) (sym (leaves_longer entries more first reply.entry reply.there)) going,
  waiting_longer size entries more later others (number + 1) next rest,
)

pub cut_stays : (olds news : List History) (old : Course) (line : Line) (new : Course) → AreGrown olds news → IsCutShort olds old line new → IsCutShort news old line new
cut_stays olds news old Wait new grown was =
    let now = history_stays olds news grown was.place was.history was.there in
    record {
      running = was.running;
      place = was.place;
      latest = was.latest;
      history = now.0;
      there = now.1;
      earlier = was.earlier;
      next = was.next;
      waiting = subst (λ (l : List Entry). IsWaitingAt old.size l was.earlier (old.calls InScript) was.next) (sym now.2.grown)
          (waiting_longer old.size was.history.entries now.2.more now.2.later was.earlier (old.calls InScript) was.next was.waiting);
      upto = was.upto;
      within = let more = ap (λ (l : List Entry). length l) now.2.grown in let long = length-append was.history.entries now.2.more in omega (arith, was.within, more, long);
      now = was.now ∙ ap (λ (l : List Entry). gone_on (with_script was.next old.calls) (length_of old.size l) old)
          (sym (ap (λ (l : List Entry). take was.upto l) now.2.grown ∙ take-append-le was.upto was.history.entries now.2.more was.within));
    }
cut_stays olds news old line new grown was = absurd was

-- and it tells nothing more
tellable_longer : (entries more : List Entry) (place : ℕ) → IsTellable entries place → IsTellable (entries ++ more) place
tellable_longer entries more place was = by_entry (slice_get entries place) refl was
  where
    by_entry : (o : Option Entry) → slice_get entries place ≡ o → MatchOption o ⊥ (λ e. MayTellBy (IsTrue (may_be_active (take place entries))) (IsTrue (may_be_ahead (take place entries))) e.event) → IsTellable (entries ++ more) place
    by_entry None is told = absurd told
    by_entry (Some e) is told =
        let within = slice_get_within entries place e is in
        subst (λ (o : Option Entry). MatchOption o ⊥ (λ x. MayTellBy (IsTrue (may_be_active (take place (entries ++ more)))) (IsTrue (may_be_ahead (take place (entries ++ more)))) x.event)) (sym (get_append entries more place e is))
        (subst (λ (l : List Entry). MayTellBy (IsTrue (may_be_active l)) (IsTrue (may_be_ahead l)) e.event) (sym (take-append-le place entries more (omega (arith, within)))) told)

-- nor has anybody else called before it
calls_longer : (beginning : List Entry → List Entry) (calls : Lane → ℕ) (entries more : List Entry) (place : ℕ) → AreCallsTold calls (beginning (take (place + 1) entries)) (slice_get entries place)
    → AreCallsTold calls (beginning (take (place + 1) (entries ++ more))) (slice_get (entries ++ more) place)
calls_longer beginning calls entries more place was = by_entry (slice_get entries place) refl was
  where
    by_entry : (o : Option Entry) → slice_get entries place ≡ o → AreCallsTold calls (beginning (take (place + 1) entries)) o → AreCallsTold calls (beginning (take (place + 1) (entries ++ more))) (slice_get (entries ++ more) place)
    by_entry None is told = absurd told
    by_entry (Some e) is told =
        let within = slice_get_within entries place e is in
        subst (λ (o : Option Entry). AreCallsTold calls (beginning (take (place + 1) (entries ++ more))) o) (sym (get_append entries more place e is))
        (subst (λ (l : List Entry). AreCallsTold calls (beginning l) (Some e)) (sym (take-append-le (place + 1) entries more (omega (arith, within)))) told)

inside_stays : (olds news : List History) (course : Course) (epoch place : ℕ) (line : Line) → AreGrown olds news → IsAnsweredInside olds course epoch place line → IsAnsweredInside news course epoch place line
inside_stays olds news course epoch place line grown was =
    let now = history_stays olds news grown epoch was.history was.there in
    record {
      running = was.running;
      latest = was.latest;
      history = now.0;
      there = now.1;
      replied = subst (λ (l : List Entry). IsRepliedAt course.size l place (course.calls InScript) line) (sym now.2.grown) (replied_longer course.size place (course.calls InScript) line was.history.entries now.2.more now.2.later was.replied);
      tellable = subst (λ (l : List Entry). IsTellable l place) (sym now.2.grown) (tellable_longer was.history.entries now.2.more place was.tellable);
      calls = subst (λ (l : List Entry). AreCallsTold course.calls (take (place + 1) l) (slice_get l place)) (sym now.2.grown)
          (calls_longer (λ l. l) course.calls was.history.entries now.2.more place was.calls);
    }

-- ---- a line of a block

-- a caller's reply stays one, as later calls are entered
callers_longer : {size : ℕ} {entries : List Entry} {caller number place : ℕ} {request : Request} (more : List Entry) → All (λ e. rest_of_call e more ≡ []) entries
    → IsCallersReply size entries caller number place request → IsCallersReply size (entries ++ more) caller number place request
callers_longer {size = size} {entries = entries} {place = place} {request = request} more later was =
    let within = slice_get_within entries place was.entry was.there in
    record {
      entry = was.entry;
      there = get_append entries more place was.entry was.there;
      callers = was.callers;
      numbered = was.numbered;
      last = ap (λ (l : List Entry). rest_of_call was.entry l) (drop-append-le (place + 1) entries more (omega (arith, within)))
          ∙ rest_append was.entry (drop (place + 1) entries) more was.last (at_place (λ e. rest_of_call e more ≡ []) entries place was.entry later was.there);
      fits = subst (λ (l : List Entry). RunningFits size l was.entry request) (sym (take-append-le place entries more (omega (arith, within)))) was.fits;
    }

worked_longer : (size place : ℕ) (entries more : List Entry) → All (λ e. rest_of_call e more ≡ []) entries
    → (earlier : List ℕ) (number : ℕ) → IsWorkedAt size entries earlier place number → IsWorkedAt size (entries ++ more) earlier place number
worked_longer size place entries more later [] number (most, some, few, reply) = (most, some, few, callers_longer more later reply)
worked_longer size place entries more later (first ∷ others) number ((most, some, few, reply), going, rest) = (
  (most, some, few, callers_longer more later reply),
  subst (λ (b : Bool). IsTrue b) (sym (leaves_longer entries more first reply.entry reply.there)) going,
  worked_longer size place entries more later others (number + 1) rest,
)

-- the entry of a worker's reply is there, and is the worker's
worked_there : (size place : ℕ) (entries : List Entry) (earlier : List ℕ) (number : ℕ) → IsWorkedAt size entries earlier place number → (e : Entry) × (slice_get entries place ≡ Some e) × (e.caller ≡ 255)
worked_there size place entries [] number (most, some, few, reply) = (reply.entry, reply.there, reply.callers)
worked_there size place entries (first ∷ others) number (reply, going, rest) = worked_there size place entries others (number + 1) rest

all_worked_longer : (size place number : ℕ) (entries more : List Entry) → All (λ e. rest_of_call e more ≡ []) entries → IsWorked size entries place number → IsWorked size (entries ++ more) place number
all_worked_longer size place number entries more later was =
    let there = worked_there size place entries was.earlier number was.worked in
    record {
      earlier = was.earlier;
      worked = worked_longer size place entries more later was.earlier number was.worked;
      ended = by was.ended (leaves_longer entries more place there.0 there.1);
    }
  where
    by : IsFalse (leaves_more_at entries place) ⊎ (length was.earlier + 1 ≡ most_turns) → leaves_more_at (entries ++ more) place ≡ leaves_more_at entries place → IsFalse (leaves_more_at (entries ++ more) place) ⊎ (length was.earlier + 1 ≡ most_turns)
    by (inl ended) same = inl (same ∙ ended)
    by (inr last) same = inr last

beside_longer : (lane : Lane) (size place number : ℕ) (line : Line) (entries more : List Entry) → All (λ e. rest_of_call e more ≡ []) entries
    → IsRepliedBeside lane size entries place number line → IsRepliedBeside lane size (entries ++ more) place number line
beside_longer InWorker size place number line entries more later was = all_worked_longer size place number entries more later was
beside_longer InScript size place number line entries more later was = callers_longer more later was
beside_longer InA size place number line entries more later was = callers_longer more later was
beside_longer InB size place number line entries more later was = callers_longer more later was

-- the entry of a reply in a block is there, and is its caller's
beside_there : (lane : Lane) (size place number : ℕ) (line : Line) (entries : List Entry) → IsRepliedBeside lane size entries place number line
    → (e : Entry) × (slice_get entries place ≡ Some e) × (e.caller ≡ caller_of lane)
beside_there InWorker size place number line entries was = worked_there size place entries was.earlier number was.worked
beside_there InScript size place number line entries was = (was.entry, was.there, was.callers)
beside_there InA size place number line entries was = (was.entry, was.there, was.callers)
beside_there InB size place number line entries was = (was.entry, was.there, was.callers)

beside_stays : (olds news : List History) (course : Course) (lane : Lane) (line : Line) (what : Answered) → AreGrown olds news → IsAnswerBeside olds course lane line what → IsAnswerBeside news course lane line what
beside_stays olds news course lane line (Inside epoch at) grown was =
    let now = history_stays olds news grown epoch was.history was.there in
    record {
      running = was.running;
      latest = was.latest;
      history = now.0;
      there = now.1;
      replied = subst (λ (l : List Entry). IsRepliedBeside lane course.size l at (course.calls lane) line) (sym now.2.grown)
          (beside_longer lane course.size at (course.calls lane) line was.history.entries now.2.more now.2.later was.replied);
      calls = λ last. subst (λ (l : List Entry). AreCallsTold course.calls (longer_of course.block (take (at + 1) l)) (slice_get l at)) (sym now.2.grown)
          (calls_longer (longer_of course.block) course.calls was.history.entries now.2.more at (was.calls last));
    }
beside_stays olds news course lane line (IsOutside Created) grown was = absurd was
beside_stays olds news course lane line (IsOutside (Assembled epoch status)) grown was = absurd was
beside_stays olds news course lane line (IsOutside (Examined slot found)) grown was = absurd was
beside_stays olds news course lane line (IsOutside (ToldAlerts list)) grown was = absurd was
beside_stays olds news course lane line (IsOutside (Refused refusal)) grown was = was

pub beside_named : (histories : List History) (course : Course) (lane : Lane) (line : Line) (what : Answered) → IsAnswerBeside histories course lane line what → IsNamed histories what
beside_named histories course lane line (Inside epoch at) is =
    let entry = beside_there lane course.size at (course.calls lane) line is.history.entries is.replied in
    subst (λ (o : Option Entry). IsSome o) (sym (ap (λ (o : Option History). option_and_then (λ h. slice_get h.entries at) o) is.there ∙ entry.1)) refl
beside_named histories course lane line (IsOutside outside) is = tt

-- an answer in a block leaves the run where it stands for the script
pub beside_after : (histories : List History) (course : Course) (lane : Lane) → lane ≢ InScript → (line : Line) (what : Answered) → IsAnswerBeside histories course lane line what → IsBeside course (course_after histories course lane line what)
beside_after histories course lane ne line (Inside epoch at) is =
    let found = beside_there lane course.size at (course.calls lane) line is.history.entries is.replied in
    let there : entry_at histories epoch at ≡ Some found.0 = ap (λ (o : Option History). option_and_then (λ h. slice_get h.entries at) o) is.there ∙ found.1 in
    subst (λ (o : Option Entry). IsBeside course (option_map_or (course_behind lane course (entries_to histories epoch at)) o course)) (sym there) (by lane ne found.0 found.2)
  where
    uncounted : (c : ℕ) (e : Entry) → c ≢ 0 → e.caller ≡ c → number_after 0 (course.calls InScript) e ≡ course.calls InScript
    uncounted c e other callers = ap (λ (b : Bool). if b then e.number + 1 else course.calls InScript) (ne_eqb e.caller 0 (λ none. other (sym callers ∙ none)))

    by : (lane : Lane) → lane ≢ InScript → (e : Entry) → e.caller ≡ caller_of lane → IsBeside course (course_behind lane course (entries_to histories epoch at) e)
    by InScript ne e callers = absurd (ne refl)
    by InA ne e callers = record { opened = refl; running = refl; script = uncounted 1 e (λ none. absurd (omega (arith, none))) callers }
    by InB ne e callers = record { opened = refl; running = refl; script = uncounted 2 e (λ none. absurd (omega (arith, none))) callers }
    by InWorker ne e callers = record { opened = refl; running = refl; script = uncounted 255 e (λ none. absurd (omega (arith, none))) callers }
beside_after histories course lane ne line (IsOutside Created) is = absurd is
beside_after histories course lane ne line (IsOutside (Assembled epoch status)) is = absurd is
beside_after histories course lane ne line (IsOutside (Examined slot found)) is = absurd is
beside_after histories course lane ne line (IsOutside (ToldAlerts list)) is = absurd is
beside_after histories course lane ne line (IsOutside (Refused refusal)) is = record { opened = refl; running = refl; script = refl }

-- the same bank, over a longer time
pub record IsWider (was now : Setting) : Type 0 where
  pub told : now.tells → was.tells
  pub given : now.given ≡ was.given
  pub backup : now.backup ≡ was.backup
  pub grows : Grows now.tells was.tape now.tape
  pub early : NeverFalls now.before was.before
  pub between : NeverFalls was.before was.now
  pub late : NeverFalls was.now now.now

longer : (was now : Setting) → IsWider was now → now.tells → length was.tape ≤ length now.tape
longer was now wider t = let more = wider.grows.more t in let long = ap (λ (l : List Operation). length l) (more.1) ∙ length-append was.tape (more.0) in omega (arith, long)

-- what the slots held at an earlier mark
held_stays : (was now : Setting) → IsWider was now → (mark : ℕ) → now.tells → mark ≤ length was.tape → held_at now mark ≡ held_at was mark
held_stays was now wider mark t le =
    let more = wider.grows.more t in
    ap (λ (g : Given). contents g.start now.tape mark) wider.given ∙ ap (λ (l : List Operation). contents was.given.start l mark) (more.1)
    ∙ (λ i s k. contents-earlier was.given.start was.tape (more.0) mark s k le i)

-- the world of a history, over the longer tape
pub world_stays : (was now : Setting) (wider : IsWider was now) (history : History) (t : now.tells) → history_world now history ≡ grown (history_world was history) (wider.grows.more t).0
world_stays was now wider history t =
    ap (λ (g : Given). record { start = g.start; tape = now.tape; scope = record { uuid = history.uuid; given = history.given; backup = now.backup; sizes = sizes g }; first = history.first }) wider.given
    ∙ ap (λ (b : Option ℕ). record { start = was.given.start; tape = now.tape; scope = record { uuid = history.uuid; given = history.given; backup = b; sizes = sizes was.given }; first = history.first }) wider.backup
    ∙ ap (λ (l : List Operation). record { start = was.given.start; tape = l; scope = record { uuid = history.uuid; given = history.given; backup = was.backup; sizes = sizes was.given }; first = history.first }) (wider.grows.more t).1

module _ (was now : Setting) (wider : IsWider was now) (end later : ℕ) (moved : now.tells → later ≡ end) (within : now.tells → end ≤ length was.tape) where
  held : now.tells → held_at now later ≡ held_at was end
  held t = ap (λ (n : ℕ). held_at now n) (moved t) ∙ held_stays was now wider end t (within t)

  uncreated_stays : (spec : CreateSpec) (refusal : Refusal) → IsUncreated was spec end refusal → IsUncreated now spec later refusal
  uncreated_stays spec refusal is =
      subst (λ (b : Option ℕ). HasCreateCause now.tells now.given (held_at now later) b spec now.before now.now (IsRefusedWith refusal)) (sym wider.backup)
      (subst (λ (g : Given). HasCreateCause now.tells g (held_at now later) was.backup spec now.before now.now (IsRefusedWith refusal)) (sym wider.given)
      (create-later wider.told wider.early wider.between wider.late was.given was.backup (held_at was end) (held_at now later) spec (λ t s at i. held t i s) (IsRefusedWith refusal) is))

  unassembled_stays : (asked : Option (List ℕ)) (refusal : Refusal) → IsUnassembled was asked end refusal → IsUnassembled now asked later refusal
  unassembled_stays asked refusal is =
      subst (λ (b : Option ℕ). HasFoundNone now.tells now.given (held_at now later) b asked now.before now.now (IsRefusedWith refusal)) (sym wider.backup)
      (subst (λ (g : Given). HasFoundNone now.tells g (held_at now later) was.backup asked now.before now.now (IsRefusedWith refusal)) (sym wider.given)
      (assemble-later wider.told wider.early wider.between wider.late was.given was.backup (held_at was end) (held_at now later) asked held (IsRefusedWith refusal) is))

  unexamined_stays : (slot : ℕ) (refusal : Refusal) → IsUnexamined was slot refusal → IsUnexamined now slot refusal
  unexamined_stays slot (NoSuchSlot asked) (same, past) = (same, subst (λ (g : Given). g.slots ≤ slot) (sym wider.given) past)
  unexamined_stays slot (SlotFault failed) (same, faulted) = (same, faulted-wider slot wider.early wider.between wider.late faulted)
  unexamined_stays slot refusal is = absurd is

  examined_wider : (line : Line) (slot : ℕ) (found : Option Sb) → IsExaminedBy was end line slot found → IsExaminedBy now later line slot found
  examined_wider (Examine asked) slot found (same, is) = (
    same,
    record {
      there = subst (λ (g : Given). slot < g.slots) (sym wider.given) is.there;
      stored = λ t. is.stored (wider.told t) ∙ sym (ap (λ (g : Given). superblock_in (g.sectors slot) (held_at now later slot)) wider.given
          ∙ ap (λ (c : Contents). superblock_in (was.given.sectors slot) (c slot)) (held t));
    },
  )
  examined_wider line slot found is = absurd is

  refused_stays : (running : Bool) (line : Line) (refusal : Refusal) → IsRefusedOutside was running end line refusal → IsRefusedOutside now running later line refusal
  refused_stays true (Create line) refusal is = is
  refused_stays true (Read at count) refusal is = is
  refused_stays true (Write at count seed) refusal is = is
  refused_stays true Flush refusal is = is
  refused_stays true (Fail role) refusal is = is
  refused_stays true (Add slot) refusal is = is
  refused_stays true (ArraySize limit) refusal is = is
  refused_stays true (Grow wish) refusal is = is
  refused_stays true (Step most) refusal is = is
  refused_stays true Wait refusal is = is
  refused_stays true Stop refusal is = is
  refused_stays true Halt refusal is = is
  refused_stays true Detail refusal is = is
  refused_stays true Mdstat refusal is = is
  refused_stays true Alerts refusal is = is
  refused_stays true (Examine slot) refusal is = unexamined_stays slot refusal is
  refused_stays true (Assemble uuid) refusal is = is
  refused_stays false (Create line) refusal is = uncreated_stays (spec_of line) refusal is
  refused_stays false (Read at count) refusal is = is
  refused_stays false (Write at count seed) refusal is = is
  refused_stays false Flush refusal is = is
  refused_stays false (Fail role) refusal is = is
  refused_stays false (Add slot) refusal is = is
  refused_stays false (ArraySize limit) refusal is = is
  refused_stays false (Grow wish) refusal is = is
  refused_stays false (Step most) refusal is = is
  refused_stays false Wait refusal is = is
  refused_stays false Stop refusal is = is
  refused_stays false Halt refusal is = is
  refused_stays false Detail refusal is = is
  refused_stays false Mdstat refusal is = is
  refused_stays false Alerts refusal is = is
  refused_stays false (Examine slot) refusal is = unexamined_stays slot refusal is
  refused_stays false (Assemble uuid) refusal is = unassembled_stays uuid refusal is

  -- a history that began within the former tape
  begun_by : (history : History) → (was.tells → history.first ≡ end) → now.tells → history.first ≤ length was.tape
  begun_by history first t = omega (arith, first (wider.told t), within t)

  made_wider : (histories : List History) (epoch : ℕ) (line : Line) → IsMadeBy was histories epoch end line → IsMadeBy now histories epoch later line
  made_wider histories epoch (Create line) is = record {
    unrefused = ap (λ (g : Given). create_refusal g now.backup (spec_of line)) wider.given ∙ ap (λ (b : Option ℕ). create_refusal was.given b (spec_of line)) wider.backup ∙ is.unrefused;
    history = is.history;
    there = is.there;
    named = is.named;
    given = λ slot. is.given slot ∙ ap (λ (g : Given). nat_lt slot g.slots) (sym wider.given);
    first = λ t. is.first (wider.told t) ∙ sym (moved t);
    zeros = λ t. subst (λ (w : World). OpensWithZeros (data_disks line.shape * line.size) (opening_list w)) (sym (world_stays was now wider is.history t))
        (subst (λ (l : List Sector). OpensWithZeros (data_disks line.shape * line.size) l)
        (sym (list-same (history_world was is.history) (wider.grows.more t).0 (begun_by is.history is.first t))) (is.zeros (wider.told t)));
    free = λ t. ap (λ (g : Given). used_slot (scope_of g now.backup is.history.given line.uuid) (held_at now later) line.shape.disks) wider.given
        ∙ ap (λ (b : Option ℕ). used_slot (scope_of was.given b is.history.given line.uuid) (held_at now later) line.shape.disks) wider.backup
        ∙ ap (λ (c : Contents). used_slot (scope_of was.given was.backup is.history.given line.uuid) c line.shape.disks) (held t) ∙ is.free (wider.told t);
    stored = λ t. subst (λ (w : World). IsStoredNew w (spec_of line)) (sym (world_stays was now wider is.history t)) (new-later (history_world was is.history) (wider.grows.more t).0 (begun_by is.history is.first t) (is.stored (wider.told t)));
    sound = λ t. subst OpensSound (sym (world_stays was now wider is.history t)) (sound-later (history_world was is.history) (wider.grows.more t).0 (begun_by is.history is.first t) (is.sound (wider.told t)));
  }
  made_wider histories epoch (Read at count) is = is
  made_wider histories epoch (Write at count seed) is = is
  made_wider histories epoch Flush is = is
  made_wider histories epoch (Fail role) is = is
  made_wider histories epoch (Add slot) is = is
  made_wider histories epoch (ArraySize limit) is = is
  made_wider histories epoch (Grow wish) is = is
  made_wider histories epoch (Step most) is = is
  made_wider histories epoch Wait is = is
  made_wider histories epoch Stop is = is
  made_wider histories epoch Halt is = is
  made_wider histories epoch Detail is = is
  made_wider histories epoch Mdstat is = is
  made_wider histories epoch Alerts is = is
  made_wider histories epoch (Examine slot) is = is
  made_wider histories epoch (Assemble uuid) is = is

  found_wider : (histories : List History) (epoch : ℕ) (line : Line) (status : Status) → IsFoundBy was histories epoch end line status → IsFoundBy now histories epoch later line status
  found_wider histories epoch (Create line) status is = is
  found_wider histories epoch (Read at count) status is = is
  found_wider histories epoch (Write at count seed) status is = is
  found_wider histories epoch Flush status is = is
  found_wider histories epoch (Fail role) status is = is
  found_wider histories epoch (Add slot) status is = is
  found_wider histories epoch (ArraySize limit) status is = is
  found_wider histories epoch (Grow wish) status is = is
  found_wider histories epoch (Step most) status is = is
  found_wider histories epoch Wait status is = is
  found_wider histories epoch Stop status is = is
  found_wider histories epoch Halt status is = is
  found_wider histories epoch Detail status is = is
  found_wider histories epoch Mdstat status is = is
  found_wider histories epoch Alerts status is = is
  found_wider histories epoch (Examine slot) status is = is
  found_wider histories epoch (Assemble asked) status is = record {
    history = is.history;
    there = is.there;
    named = is.named;
    given = subst (λ (g : Given). AreGiven g is.history.given now.before now.now) (sym wider.given) (given-wider wider.early wider.between wider.late is.given);
    shown = is.shown;
    at_end = λ t. is.at_end (wider.told t) ∙ sym (moved t);
    first = λ t. is.first (wider.told t) ∙ sym (moved t);
    elected = λ t. is.elected (wider.told t) ∙ sym (ap (λ (g : Given). array_of g now.backup is.history.given asked (held_at now later)) wider.given
        ∙ ap (λ (b : Option ℕ). array_of was.given b is.history.given asked (held_at now later)) wider.backup
        ∙ ap (λ (c : Contents). array_of was.given was.backup is.history.given asked c) (held t));
    stored = λ t. subst (λ (w : World). IsStoredAs w status is.shown.losses) (sym (world_stays was now wider is.history t))
        (stored-later (history_world was is.history) (wider.grows.more t).0 (begun_by is.history is.first t) (is.stored (wider.told t)));
  }

  -- an answer stays one over a longer time
  pub answer_wider : (histories : List History) (course : Course) (line : Line) (what : Answered) → IsAnswer was histories course line end what → IsAnswer now histories course line later what
  answer_wider histories course line (Inside epoch at) is = is
  answer_wider histories course line (IsOutside Created) (idle, made) = (idle, made_wider histories course.opened line made)
  answer_wider histories course line (IsOutside (Assembled epoch status)) (idle, next, found) = (idle, next, found_wider histories course.opened line status found)
  answer_wider histories course line (IsOutside (Examined slot found)) is = examined_wider line slot found is
  answer_wider histories course line (IsOutside (ToldAlerts list)) is = is
  answer_wider histories course line (IsOutside (Refused refusal)) is = refused_stays course.running line refusal is

-- the world of a history that went on
world_grown : (setting : Setting) (old new : History) → IsGrown old new → history_world setting old ≡ history_world setting new
world_grown setting old new grown =
    ap (λ (u : List ℕ). record { start = setting.given.start; tape = setting.tape; scope = record { uuid = u; given = old.given; backup = setting.backup; sizes = sizes setting.given }; first = old.first }) (sym grown.uuid)
    ∙ ap (λ (n : ℕ). record { start = setting.given.start; tape = setting.tape; scope = record { uuid = new.uuid; given = n; backup = setting.backup; sizes = sizes setting.given }; first = old.first }) (sym grown.given)
    ∙ ap (λ (n : ℕ). record { start = setting.given.start; tape = setting.tape; scope = record { uuid = new.uuid; given = new.given; backup = setting.backup; sizes = sizes setting.given }; first = n }) (sym grown.first)

made_stays : (setting : Setting) (olds news : List History) → AreGrown olds news → (epoch end : ℕ) (line : Line) → IsMadeBy setting olds epoch end line → IsMadeBy setting news epoch end line
made_stays setting olds news grown epoch end (Create line) is =
    let now = history_stays olds news grown epoch is.history is.there in
    let same = world_grown setting is.history now.0 now.2 in
    record {
      unrefused = is.unrefused;
      history = now.0;
      there = now.1;
      named = now.2.uuid ∙ is.named;
      given = λ slot. ap (λ (n : ℕ). has_slot n slot) now.2.given ∙ is.given slot;
      first = λ t. now.2.first ∙ is.first t;
      zeros = λ t. subst (λ (w : World). OpensWithZeros (data_disks line.shape * line.size) (opening_list w)) same (is.zeros t);
      free = λ t. ap (λ (n : ℕ). used_slot (scope_of setting.given setting.backup n line.uuid) (held_at setting end) line.shape.disks) now.2.given ∙ is.free t;
      stored = λ t. subst (λ (w : World). IsStoredNew w (spec_of line)) same (is.stored t);
      sound = λ t. subst OpensSound same (is.sound t);
    }
made_stays setting olds news grown epoch end (Read at count) is = is
made_stays setting olds news grown epoch end (Write at count seed) is = is
made_stays setting olds news grown epoch end Flush is = is
made_stays setting olds news grown epoch end (Fail role) is = is
made_stays setting olds news grown epoch end (Add slot) is = is
made_stays setting olds news grown epoch end (ArraySize limit) is = is
made_stays setting olds news grown epoch end (Grow wish) is = is
made_stays setting olds news grown epoch end (Step most) is = is
made_stays setting olds news grown epoch end Wait is = is
made_stays setting olds news grown epoch end Stop is = is
made_stays setting olds news grown epoch end Halt is = is
made_stays setting olds news grown epoch end Detail is = is
made_stays setting olds news grown epoch end Mdstat is = is
made_stays setting olds news grown epoch end Alerts is = is
made_stays setting olds news grown epoch end (Examine slot) is = is
made_stays setting olds news grown epoch end (Assemble uuid) is = is

-- it still begins with its opening
abbrev begins_still : (old new : History) (status : Status) → IsGrown old new → BeginsShown old status → BeginsShown new status
begins_still old new status grown was =
    let first : Entry = record { caller = 0; number = 0; end = was.end; event = Shown status } in
    record {
      losses = was.losses;
      end = was.end;
      more = was.more ++ grown.more;
      is = grown.grown ∙ ap (λ (l : List Entry). l ++ grown.more) was.is ∙ append_assoc (entries_of opener old.first was.losses) (first ∷ was.more) grown.more
          ∙ ap (λ (n : ℕ). entries_of opener n was.losses ++ first ∷ (was.more ++ grown.more)) (sym grown.first);
    }

found_stays : (setting : Setting) (olds news : List History) → AreGrown olds news → (epoch end : ℕ) (line : Line) (status : Status) → IsFoundBy setting olds epoch end line status → IsFoundBy setting news epoch end line status
found_stays setting olds news grown epoch end (Create line) status is = is
found_stays setting olds news grown epoch end (Read at count) status is = is
found_stays setting olds news grown epoch end (Write at count seed) status is = is
found_stays setting olds news grown epoch end Flush status is = is
found_stays setting olds news grown epoch end (Fail role) status is = is
found_stays setting olds news grown epoch end (Add slot) status is = is
found_stays setting olds news grown epoch end (ArraySize limit) status is = is
found_stays setting olds news grown epoch end (Grow wish) status is = is
found_stays setting olds news grown epoch end (Step most) status is = is
found_stays setting olds news grown epoch end Wait status is = is
found_stays setting olds news grown epoch end Stop status is = is
found_stays setting olds news grown epoch end Halt status is = is
found_stays setting olds news grown epoch end Detail status is = is
found_stays setting olds news grown epoch end Mdstat status is = is
found_stays setting olds news grown epoch end Alerts status is = is
found_stays setting olds news grown epoch end (Examine slot) status is = is
found_stays setting olds news grown epoch end (Assemble asked) status is =
    let now = history_stays olds news grown epoch is.history is.there in
    record {
      history = now.0;
      there = now.1;
      named = subst (λ (u : List ℕ). IfSome asked (λ uuid. u ≡ uuid)) (sym now.2.uuid) is.named;
      given = subst (λ (n : ℕ). AreGiven setting.given n setting.before setting.now) (sym now.2.given) is.given;
      shown = begins_still is.history now.0 status now.2 is.shown;
      at_end = is.at_end;
      first = λ t. now.2.first ∙ is.first t;
      elected = λ t. now.2.uuid ∙ is.elected t ∙ ap (λ (n : ℕ). array_of setting.given setting.backup n asked (held_at setting end)) (sym now.2.given);
      stored = λ t. subst (λ (w : World). IsStoredAs w status is.shown.losses) (world_grown setting is.history now.0 now.2) (is.stored t);
    }

-- and as the histories grow
answer_stays : (setting : Setting) (olds news : List History) (course : Course) (line : Line) (end : ℕ) (what : Answered) → AreGrown olds news → IsAnswer setting olds course line end what → IsAnswer setting news course line end what
answer_stays setting olds news course line end (Inside epoch at) grown is = inside_stays olds news course epoch at line grown is
answer_stays setting olds news course line end (IsOutside Created) grown (idle, made) = (idle, made_stays setting olds news grown course.opened end line made)
answer_stays setting olds news course line end (IsOutside (Assembled epoch status)) grown (idle, next, found) = (idle, next, found_stays setting olds news grown course.opened end line status found)
answer_stays setting olds news course line end (IsOutside (Examined slot found)) grown is = is
answer_stays setting olds news course line end (IsOutside (ToldAlerts list)) grown is = is
answer_stays setting olds news course line end (IsOutside (Refused refusal)) grown is = is

pub some_named : (o : Option Entry) → IsSome o → (e : Entry) × (o ≡ Some e)
some_named None is = absurd (cc)
some_named (Some e) is = (e, refl)

-- an answer names an entry that is there
pub answer_named : (setting : Setting) (histories : List History) (course : Course) (line : Line) (end : ℕ) (what : Answered) → IsAnswer setting histories course line end what → IsNamed histories what
answer_named setting histories course line end (Inside epoch at) is =
    let entry = replied_there course.size at is.history.entries line (course.calls InScript) is.replied in
    subst (λ (o : Option Entry). IsSome o) (sym (ap (λ (o : Option History). option_and_then (λ h. slice_get h.entries at) o) is.there ∙ entry.1)) refl
answer_named setting histories course line end (IsOutside outside) is = tt

-- by its lane
pub answer_in_named : (setting : Setting) (histories : List History) (course : Course) (lane : Lane) (line : Line) (end : ℕ) (what : Answered) → IsAnswerIn setting histories course lane line end what → IsNamed histories what
answer_in_named setting histories course InScript line end what is = answer_named setting histories course line end what is
answer_in_named setting histories course InA line end what is = beside_named histories course InA line what is
answer_in_named setting histories course InB line end what is = beside_named histories course InB line what is
answer_in_named setting histories course InWorker line end what is = beside_named histories course InWorker line what is

-- it stays one over a longer time, and as the histories grow
answer_in_stays : (was now : Setting) → IsWider was now → (olds news : List History) (course : Course) (lane : Lane) (line : Line) (reply : LineReply) → AreGrown olds news → reply.lane ≡ lane → (was.tells → mark_shown 0 reply ≤ length was.tape)
    → IsAnswerIn was olds course lane line reply.end reply.what → IsAnswerIn now news course lane line reply.end reply.what
answer_in_stays was now wider olds news course InScript line reply grown same within is =
    answer_stays now olds news course line reply.end reply.what grown
    (answer_wider was now wider reply.end reply.end (λ t. refl) (λ t. subst (λ (l : Lane). mark_reached 0 l reply.what reply.end ≤ length was.tape) same (within (wider.told t))) olds course line reply.what is)
answer_in_stays was now wider olds news course InA line reply grown same within is = beside_stays olds news course InA line reply.what grown is
answer_in_stays was now wider olds news course InB line reply grown same within is = beside_stays olds news course InB line reply.what grown is
answer_in_stays was now wider olds news course InWorker line reply grown same within is = beside_stays olds news course InWorker line reply.what grown is

-- the run stands where it stood
pub course_stays : (olds news : List History) (course : Course) (lane : Lane) (line : Line) (what : Answered) → AreGrown olds news → IsNamed olds what → course_after news course lane line what ≡ course_after olds course lane line what
course_stays olds news course lane line (Inside epoch at) grown named =
    let is = some_named (entry_at olds epoch at) named in
    let same : entry_at news epoch at ≡ entry_at olds epoch at = named_stays olds news grown epoch at is.0 (is.1) ∙ sym (is.1) in
    ap (λ (o : Option Entry). option_map_or (course_behind lane course (entries_to news epoch at)) o course) same
    ∙ ap (λ (l : List Entry). option_map_or (course_behind lane course l) (entry_at olds epoch at) course) (to_stays olds news grown epoch at is.0 (is.1))
course_stays olds news course lane line (IsOutside Created) grown named = refl
course_stays olds news course lane line (IsOutside (Assembled epoch status)) grown named = refl
course_stays olds news course lane line (IsOutside (Examined slot found)) grown named = refl
course_stays olds news course lane line (IsOutside (ToldAlerts list)) grown named = refl
course_stays olds news course lane line (IsOutside (Refused refusal)) grown named = refl

-- amid a block too
worked_on_stays : (olds news : List History) (told course : Course) → AreGrown olds news → HasWorkedOn olds told course → HasWorkedOn news told course
worked_on_stays olds news told course grown was =
    let now = history_stays olds news grown was.epoch was.history was.there in
    let entry = worked_there told.size was.place was.history.entries was.earlier (told.calls InWorker) was.worked in
    let named : IsNamed olds (Inside was.epoch was.place) =
    subst (λ (o : Option Entry). IsSome o) (sym (ap (λ (o : Option History). option_and_then (λ h. slice_get h.entries was.place) o) was.there ∙ entry.1)) refl in
    record {
      running = was.running;
      epoch = was.epoch;
      latest = was.latest;
      history = now.0;
      there = now.1;
      earlier = was.earlier;
      place = was.place;
      worked = subst (λ (l : List Entry). IsWorkedAt told.size l was.earlier was.place (told.calls InWorker)) (sym now.2.grown)
          (worked_longer told.size was.place was.history.entries now.2.more now.2.later was.earlier (told.calls InWorker) was.worked);
      stands = subst (λ (c : Course). IsStanding c course) (sym (course_stays olds news told InWorker Wait (Inside was.epoch was.place) grown named)) was.stands;
    }

-- what is said of one line more of a block, by whether it is the worker's
abbrev pub IsAmidLine : List History → Course → Numbered → List Numbered → Course → Bool → Type 0
IsAmidLine histories told line lines course worker = MatchBool worker
    (IsStanding told course ⊎ HasWorkedOn histories told course)
    (((course.calls line.lane ≡ told.calls line.lane) × IsAmidBlock histories told lines course)
    ⊎ ((what : Answered) × IsAnswerBeside histories told line.lane line.line what × IsAmidBlock histories (course_after histories told line.lane line.line what) lines course))

pub amid_stays : (olds news : List History) → AreGrown olds news → (lines : List Numbered) (told course : Course) → IsAmidBlock olds told lines course → IsAmidBlock news told lines course
amid_stays olds news grown [] told course was = was
amid_stays olds news grown (line ∷ lines) told course was = by (is_of_worker line.lane) was (λ c rest. amid_stays olds news grown lines c course rest)
  where
    by : (b : Bool) → IsAmidLine olds told line lines course b → ((c : Course) → IsAmidBlock olds c lines course → IsAmidBlock news c lines course) → IsAmidLine news told line lines course b
    by true (inl is) later = inl is
    by true (inr is) later = inr (worked_on_stays olds news told course grown is)
    by false (inl (none, rest)) later = inl (none, later told rest)
    by false (inr (what, answer, rest)) later = inr (
      what,
      beside_stays olds news told line.lane line.line what grown answer,
      subst (λ (c : Course). IsAmidBlock news c lines course) (sym (course_stays olds news told line.lane line.line what grown (beside_named olds told line.lane line.line what answer)))
          (later (course_after olds told line.lane line.line what) rest),
    )

pub past_memory_stays : (olds news : List History) → AreGrown olds news → IsPastMemory olds → IsPastMemory news
past_memory_stays olds news grown (epoch, history, there, long) =
    let now = history_stays olds news grown epoch history there in
    let more = ap (λ (l : List Entry). length l) now.2.grown in
    let sum = length-append history.entries now.2.more in
    (epoch, now.0, now.1, omega (arith, long, more, sum))

pub courses_stay : (setting : Setting) (olds news : List History) (course : Course) (lines : List Numbered) (replies : List LineReply) → AreGrown olds news → AreReplies setting olds course lines replies
    → course_of news course lines replies ≡ course_of olds course lines replies
courses_stay setting olds news course [] replies grown was = refl
courses_stay setting olds news course (line ∷ lines) [] grown was = refl
courses_stay setting olds news course (line ∷ lines) (reply ∷ replies) grown (one, rest) =
    ap (λ (c : Course). course_of news c lines replies) (course_stays olds news course line.lane line.line reply.what grown (answer_in_named setting olds course line.lane line.line reply.end reply.what one.answer))
    ∙ courses_stay setting olds news (course_after olds course line.lane line.line reply.what) lines replies grown rest

end_stays : (olds news : List History) (reply : LineReply) (what : Answered) → AreGrown olds news → IsEnd olds reply what → IsEnd news reply what
end_stays olds news reply (Inside epoch at) grown was = by_entry (entry_at olds epoch at) refl was
  where
    by_entry : (o : Option Entry) → entry_at olds epoch at ≡ o → MatchOption o ⊥ (λ entry. reply.end ≡ entry.end) → MatchOption (entry_at news epoch at) ⊥ (λ entry. reply.end ≡ entry.end)
    by_entry None is end = absurd end
    by_entry (Some e) is end = subst (λ (o : Option Entry). MatchOption o ⊥ (λ entry. reply.end ≡ entry.end)) (sym (named_stays olds news grown epoch at e is)) end
end_stays olds news reply (IsOutside outside) grown was = was

pub replies_stay : (was now : Setting) → IsWider was now → (olds news : List History) (course : Course) (lines : List Numbered) (replies : List LineReply) → AreGrown olds news
    → AreReplies was olds course lines replies → AreReplies now news course lines replies
replies_stay was now wider olds news course [] [] grown is = is
replies_stay was now wider olds news course [] (reply ∷ replies) grown is = absurd is
replies_stay was now wider olds news course (line ∷ lines) [] grown is = absurd is
replies_stay was now wider olds news course (line ∷ lines) (reply ∷ replies) grown (one, rest) = (
  record {
    line = one.line;
    lane = one.lane;
    end = end_stays olds news reply reply.what grown one.end;
    within = λ t. omega (arith, one.within (wider.told t), longer was now wider t);
    answer = answer_in_stays was now wider olds news course line.lane line.line reply grown one.lane one.within one.answer;
  },
  subst (λ (c : Course). AreReplies now news c lines replies) (sym (course_stays olds news course line.lane line.line reply.what grown (answer_in_named was olds course line.lane line.line reply.end reply.what one.answer)))
      (replies_stay was now wider olds news (course_after olds course line.lane line.line reply.what) lines replies grown rest),
)

-- one reply more
pub replies_more : (setting : Setting) (histories : List History) (course : Course) (lines : List Numbered) (replies : List LineReply) (line : Numbered) (reply : LineReply)
    → AreReplies setting histories course lines replies → IsReplyTo setting histories (course_of histories course lines replies) line reply
    → AreReplies setting histories course (lines ++ line ∷ []) (replies ++ reply ∷ [])
replies_more setting histories course [] [] line reply was one = (one, was)
replies_more setting histories course [] (r ∷ replies) line reply was one = absurd was
replies_more setting histories course (l ∷ lines) [] line reply was one = absurd was
replies_more setting histories course (l ∷ lines) (r ∷ replies) line reply (first, rest) one = (first, replies_more setting histories (course_after histories course l.lane l.line r.what) lines replies line reply rest one)

-- the first so many replies answer the first so many lines
pub replies_front : (setting : Setting) (histories : List History) (course : Course) (n m : ℕ) (lines : List Numbered) (replies : List LineReply) → n ≤ m
    → AreReplies setting histories course (take m lines) replies → AreReplies setting histories course (take n lines) (take n replies)
replies_front setting histories course zero m lines replies le was = tt
replies_front setting histories course (suc n) zero lines replies le was = absurd (omega (arith, le))
replies_front setting histories course (suc n) (suc m) [] [] le was = was
replies_front setting histories course (suc n) (suc m) [] (r ∷ replies) le was = absurd was
replies_front setting histories course (suc n) (suc m) (l ∷ lines) [] le was = absurd was
replies_front setting histories course (suc n) (suc m) (l ∷ lines) (r ∷ replies) le (first, rest) =
    (first, replies_front setting histories (course_after histories course l.lane l.line r.what) n m lines replies (omega (arith, le)) rest)

pub course_more : (histories : List History) (course : Course) (lines : List Numbered) (replies : List LineReply) (line : Numbered) (reply : LineReply) → length lines ≡ length replies
    → course_of histories course (lines ++ line ∷ []) (replies ++ reply ∷ []) ≡ course_after histories (course_of histories course lines replies) line.lane line.line reply.what
course_more histories course [] [] line reply same = refl
course_more histories course [] (r ∷ replies) line reply same = absurd (omega (arith, same))
course_more histories course (l ∷ lines) [] line reply same = absurd (omega (arith, same))
course_more histories course (l ∷ lines) (r ∷ replies) line reply same = course_more histories (course_after histories course l.lane l.line r.what) lines replies line reply (omega (arith, same))

-- several replies more
pub replies_both : (setting : Setting) (histories : List History) (course : Course) (lines : List Numbered) (replies : List LineReply) (more : List Numbered) (others : List LineReply)
    → AreReplies setting histories course lines replies → AreReplies setting histories (course_of histories course lines replies) more others
    → AreReplies setting histories course (lines ++ more) (replies ++ others)
replies_both setting histories course [] [] more others was next = next
replies_both setting histories course [] (r ∷ replies) more others was next = absurd was
replies_both setting histories course (l ∷ lines) [] more others was next = absurd was
replies_both setting histories course (l ∷ lines) (r ∷ replies) more others (first, rest) next = (first, replies_both setting histories (course_after histories course l.lane l.line r.what) lines replies more others rest next)

pub course_both : (histories : List History) (course : Course) (lines : List Numbered) (replies : List LineReply) (more : List Numbered) (others : List LineReply) → length lines ≡ length replies
    → course_of histories course (lines ++ more) (replies ++ others) ≡ course_of histories (course_of histories course lines replies) more others
course_both histories course [] [] more others same = refl
course_both histories course [] (r ∷ replies) more others same = absurd (omega (arith, same))
course_both histories course (l ∷ lines) [] more others same = absurd (omega (arith, same))
course_both histories course (l ∷ lines) (r ∷ replies) more others same = course_both histories (course_after histories course l.lane l.line r.what) lines replies more others (omega (arith, same))
