-- The histories of the arrays that ran stay legal as the tape grows.
use Rattle.std.proofs.Common.{◌≡◌, ℕ, ◌≤◌, List, [], ◌∷◌, ◌++◌, length, Option, sym, ◌∙◌, subst, arith, append-nil, length-append}
use Rattle.std.proofs.lemmas.List.Elements.{All-push, All-weaker, All-nil, All-cons, All-head, All-tail}
use Rattle.run_specs.specs.bank_Given.{Given}
use Rattle.run_specs.specs.bank_the_Operation.{Operation}
use Rattle.run_specs.specs.history_the_Entry.{Entry}
use Rattle.run_specs.specs.history_the_Epoch.{Epoch}
use Rattle.run_specs.specs.history_Epochs.{world_of}
use Rattle.run_specs.specs.history_OneShape.{ShapeOpening, opening_in, IsOneShapeLegal}
use Rattle.run_specs.proofs.history_LegalLaws.{histories-stay-legal}
use Rattle.run_specs.proofs.history_OneShapeLegal.{opening-grown}
use Rattle.run_specs.proofs.history_laws_OneShapeGrowing.{one_shape-later}
use Rattle.run_specs.proofs.history_SoundLaws.{fit-before}
use Rattle.run_specs.proofs.history_laws_ReshapedLaws.{reshapes-stay-right}
use Rattle.run_specs.proofs.history_invariant_Turned.{filled-before}
use Rattle.run_specs.specs.history_invariant_Safe.{IsFilledRight}
use Rattle.run_specs.specs.history_invariant_laws_Reliable.{IsReliable}
use Rattle.run_specs.specs.array_specs_Calls.{IsEpochKept}
use Rattle.run_specs.specs.array_fixed_laws_Plain.{IsPlainEpoch}
use Rattle.run_specs.specs.array_call_specs_Calls.{IsEndOf}
use Rattle.run_specs.specs.array_members_Moving.{Grows}
use Rattle.run_specs.specs.array_members_Parts.{Parts}
use Rattle.std.specs.Prelude.{Result, Ok, Err, IfOk, IfErr}
use Rattle.run_specs.specs.raid_types_the_NoMemory.{NoMemory}
use Rattle.std.proofs.lemmas.List.{map-append}
use Rattle.run_specs.specs.history_CrashSafe.{IsCrashSafe}
use Rattle.run_specs.specs.history_World.{World}
use Rattle.run_specs.specs.history_Growing.{EndBy}
use Rattle.run_specs.specs.history_Reopened.{OpensAccepted}
use Rattle.run_specs.specs.history_Sound.{StaysSound}
use Rattle.run_specs.specs.history_Growing.{grown}
use Rattle.run_specs.specs.Histories.{History, history_of, histories_of}
use Rattle.run_specs.specs.Making.{world_at, AreHeldSince}
use Rattle.run_specs.specs.States.{running_history}
use Rattle.run_specs.proofs.Losses.{IsSameOpening, IsHistoryLater, AreHeldOn, world_same, held-later, held-on}
use Rattle.run_specs.proofs.Worlds.{room-before, fills-before, keeps-before, accepted-later, safe-longer, sound-longer}
use Rattle.run_specs.specs.Ended.{IsLegalEpoch, AreLegal, IfReliable, IfShapeKept, IsSafeEpoch, AreSafe, next_mark, AreRising, AreFormer, IsGoing}
use Rattle.run_specs.proofs.array_members_SafeStretch.{grows-longer}

pub ends_later : (a b : ℕ) (entries : List Entry) → a ≤ b → EndBy a entries → EndBy b entries
ends_later a b [] le was = tt
ends_later a b (e ∷ entries) le (one, rest) = (omega (arith, le, one), ends_later a b entries le rest)

-- what can be relied on over a longer tape can be relied on before
pub reliable-before : (world : World) (more : List Operation) (entries : List Entry) → world.first ≤ length world.tape → EndBy (length world.tape) entries → IsReliable (grown world more) entries → IsReliable world entries
reliable-before world more entries begun ends was = record {
  fills = filled-before world more entries [] begun ends (subst (λ (l : List Entry). IsFilledRight (grown world more) l) (sym (append-nil entries)) was.fills);
  room = room-before world more begun was.room;
}

legal_longer : (given : Given) (tape more : List Operation) (backup : Option ℕ) (epoch : Epoch) → IsLegalEpoch given tape backup epoch → IsLegalEpoch given (tape ++ more) backup epoch
legal_longer given tape more backup epoch was =
    let world = world_of given tape backup epoch in
    let longer : length tape ≤ length (tape ++ more) = omega (arith, length-append tape more) in
    record {
      begun = omega (arith, was.begun, longer);
      accepted = accepted-later world more was.begun was.accepted;
      ends = ends_later (length tape) (length (tape ++ more)) epoch.entries.items longer was.ends;
      legal = λ relied. histories-stay-legal world epoch.entries.items more was.ends (was.legal (reliable-before world more epoch.entries.items was.begun was.ends relied));
      reshaped = λ relied opens. reshapes-stay-right world epoch.entries.items more was.ends (was.reshaped (reliable-before world more epoch.entries.items was.begun was.ends relied) (fit-before world more was.begun opens));
      plain = λ keeps.
          let plain = was.plain (keeps-before world more was.begun epoch.entries.items keeps) in
          record {
            legal = λ fills. subst (λ (opening : ShapeOpening). IsOneShapeLegal opening (length (tape ++ more)) epoch.entries.items) (sym (opening-grown world more was.begun))
                (one_shape-later (opening_in world) (length tape) (length (tape ++ more)) [] epoch.entries.items longer (plain.legal (fills-before world more was.begun epoch.entries.items fills)));
            plainly = plain.plainly;
          };
    }

-- what is safe and sound goes on to be
sound_longer : (given : Given) (tape more : List Operation) (backup : Option ℕ) (epoch : Epoch) → IsLegalEpoch given tape backup epoch
    → IsSafeEpoch given tape backup epoch → IsSafeEpoch given (tape ++ more) backup epoch
sound_longer given tape more backup epoch legal was relied =
    let world = world_of given tape backup epoch in
    let entries = epoch.entries.items in
    let before = was (reliable-before world more entries legal.begun legal.ends relied) in
    (safe-longer world more entries legal.begun legal.ends before.0, sound-longer world more entries legal.begun legal.ends before.1)

safes_longer : (given : Given) (tape more : List Operation) (backup : Option ℕ) (epochs : List Epoch) → AreLegal given tape backup epochs → AreSafe given tape backup epochs → AreSafe given (tape ++ more) backup epochs
safes_longer given tape more backup [] legal safe = All-nil (λ e. IsSafeEpoch given (tape ++ more) backup e)
safes_longer given tape more backup (e ∷ epochs) legal safe =
    All-cons (λ e. IsSafeEpoch given (tape ++ more) backup e) e epochs
    (sound_longer given tape more backup e (All-head (λ e. IsLegalEpoch given tape backup e) e epochs legal)
    (All-head (λ e. IsSafeEpoch given tape backup e) e epochs safe))
    (safes_longer given tape more backup epochs (All-tail (λ e. IsLegalEpoch given tape backup e) e epochs legal)
    (All-tail (λ e. IsSafeEpoch given tape backup e) e epochs safe))

-- ---- the marks at which the histories begin

pub rising_later : (a b : ℕ) (hs : List History) → a ≤ b → AreRising a hs → AreRising b hs
rising_later a b [] le was = tt
rising_later a b (h ∷ []) le ((one, ends), rest) = ((omega (arith, le, one), ends_later a b h.entries le ends), tt)
rising_later a b (h ∷ k ∷ hs) le (one, rest) = (one, rising_later a b (k ∷ hs) le rest)

pub rising_more : (mark : ℕ) (hs : List History) (h : History) → AreRising h.first hs → h.first ≤ mark → EndBy mark h.entries → AreRising mark (hs ++ h ∷ [])
rising_more mark [] h was le ends = ((le, ends), tt)
rising_more mark (x ∷ []) h (one, rest) le ends = (one, ((le, ends), tt))
rising_more mark (x ∷ y ∷ hs) h (one, rest) le ends = (one, rising_more mark (y ∷ hs) h rest le ends)

-- the first of them begins within the tape
pub next_within : (tape : List Operation) (epochs : List Epoch) → AreRising (length tape) (histories_of epochs) → next_mark (length tape) (histories_of epochs) ≤ length tape
next_within tape [] rising = omega arith
next_within tape (f ∷ epochs) (one, rest) = let later = next_within tape epochs rest in omega (arith, one.0, later)

-- ---- what is kept, as the tape grows

-- the arrays that ran before
pub former_grown : {tells : Type 0} {before after : List Operation} (given : Given) (backup : Option ℕ) (a b : ℕ) (epochs : List Epoch) → Grows tells before after → tells → a ≤ b → AreFormer given before backup a epochs → AreFormer given after backup b epochs
former_grown {before = before} {after = after} given backup a b epochs grows told le was =
    let more = grows.more told in
    subst (λ (tape : List Operation). AreFormer given tape backup b epochs) (sym (more.1)) (record {
      legal = All-weaker (λ e. IsLegalEpoch given before backup e) (λ e. IsLegalEpoch given (before ++ more.0) backup e) (λ e legal. legal_longer given before (more.0) backup e legal) epochs was.legal;
      safe = safes_longer given before (more.0) backup epochs was.legal was.safe;
      rising = rising_later a b (histories_of epochs) le was.rising;
    })

pub former_same : (given : Given) (tape : List Operation) (backup : Option ℕ) (mark : ℕ) (olds news : List Epoch) → news ≡ olds → AreFormer given tape backup mark olds → AreFormer given tape backup mark news
former_same given tape backup mark olds news same was = subst (λ (l : List Epoch). AreFormer given tape backup mark l) (sym same) was

-- none did
pub former_none : (given : Given) (tape : List Operation) (backup : Option ℕ) (mark : ℕ) (epochs : List Epoch) → epochs ≡ [] → AreFormer given tape backup mark epochs
former_none given tape backup mark epochs empty = subst (λ (l : List Epoch). AreFormer given tape backup mark l) (sym empty) (record {
  legal = All-nil (λ e. IsLegalEpoch given tape backup e);
  safe = All-nil (λ e. IsSafeEpoch given tape backup e);
  rising = tt;
})

-- no array ran, and none does
pub idle_grown : {tells : Type 0} {before after : List Operation} (given : Given) (backup : Option ℕ) (olds news : List Epoch) → news ≡ olds → Grows tells before after
    → (tells → AreFormer given before backup (length before) olds) → tells → AreFormer given after backup (length after) news
idle_grown {before = before} {after = after} given backup olds news same grows was told =
    former_same given after backup (length after) olds news same (former_grown given backup (length before) (length after) olds grows told (grows-longer grows told) (was told))

-- what an opening found goes on to be refused for nothing
pub accepted-grown : {tells : Type 0} {before after : List Operation} (given : Given) (backup : Option ℕ) (old new : History) → Grows tells before after → IsSameOpening old new → (tells → old.first ≤ length before)
    → (tells → OpensAccepted (world_at given before backup old)) → tells → OpensAccepted (world_at given after backup new)
accepted-grown {before = before} {after = after} given backup old new grows same begun was t =
    let more = grows.more t in
    subst (λ (w : World). OpensAccepted w) (sym (world_same given after backup old new same))
    (subst (λ (l : List Operation). OpensAccepted (world_at given l backup old)) (sym (more.1)) (accepted-later (world_at given before backup old) (more.0) (begun t) (was t)))

-- the array that runs went on
pub going_grown : {B tells : Type 0} {before after : List Operation} (given : Given) (backup : Option ℕ) (old new : Parts B) (epochs : List Epoch) → Grows tells before after → IsHistoryLater (running_history old) (running_history new) → new.backup ≡ old.backup
    → AreHeldOn old.members new.members new.entries → IsEndOf tells new.first new.entries after → IsGoing tells given before backup old epochs → IsGoing tells given after backup new epochs
going_grown {after = after} given backup old new epochs grows later same on ended was = record {
  backup_is = same ∙ was.backup_is;
  former = λ t. former_grown given backup old.first new.first epochs grows t (omega (arith, later.same.first)) (was.former t);
  begun = λ t. omega (arith, later.same.first, was.begun t, grows-longer grows t);
  accepted = accepted-grown given backup (running_history old) (running_history new) grows later.same was.begun was.accepted;
  held = λ t. held-on (world_at given after backup (running_history new)) new.entries old.members (held-later given backup (running_history old) (running_history new) old.members grows later was.held t) new.members on;
  ended = ended;
}

-- a request was made of it, or memory was short
pub going_asked : {B tells : Type 0} (given : Given) (tape : B → List Operation) (backup : Option ℕ) (old new : Parts B) (epochs : List Epoch) (r : Result ℕ NoMemory) → Grows tells (tape old.bank) (tape new.bank) → IsHistoryLater (running_history old) (running_history new) → new.backup ≡ old.backup → AreHeldOn old.members new.members new.entries
    → IfOk r (λ place. IsEndOf tells new.first new.entries (tape new.bank)) → IfErr r (λ none. new ≡ old) → IsGoing tells given (tape old.bank) backup old epochs → IsGoing tells given (tape new.bank) backup new epochs
going_asked given tape backup old new epochs (Ok place) grows later same on ended unchanged was = going_grown given backup old new epochs grows later same on ended was
going_asked {B = B} {tells = tells} given tape backup old new epochs (Err fault) grows later same on ended unchanged was = subst (λ (a : Parts B). IsGoing tells given (tape a.bank) backup a epochs) (sym unchanged) was

-- an array was opened where the tape ends
pub going_begun : {B tells : Type 0} {before after : List Operation} (given : Given) (backup : Option ℕ) (olds news : List Epoch) (array : Parts B) → news ≡ olds → Grows tells before after
    → array.backup ≡ backup → (tells → array.first ≡ length after) → (tells → OpensAccepted (world_at given after backup (running_history array))) → (tells → AreHeldSince (world_at given after backup (running_history array)) array.entries array.members) → IsEndOf tells array.first array.entries after
    → (tells → AreFormer given before backup (length before) olds) → IsGoing tells given after backup array news
going_begun {before = before} {after = after} given backup olds news array same grows backup_is first accepted held ended was = record {
  backup_is = backup_is;
  former = λ t. former_same given after backup array.first olds news same (former_grown given backup (length before) array.first olds grows t (omega (arith, first t, grows-longer grows t)) (was t));
  begun = λ t. omega (arith, first t);
  accepted = accepted;
  held = held;
  ended = ended;
}

-- the history of an array that ran
pub legal_epoch : {B tells : Type 0} {before after : List Operation} (given : Given) (backup : Option ℕ) (array : Parts B) (epochs : List Epoch) (epoch : Epoch) → Grows tells before after → IsSameOpening (running_history array) (history_of epoch) → IsGoing tells given before backup array epochs
    → (tells → EndBy (length after) epoch.entries.items)
    → (tells → IfReliable given after backup epoch (IsEpochKept given after backup epoch)) → (tells → IfShapeKept given after backup epoch (IsPlainEpoch given after backup epoch))
    → tells → IsLegalEpoch given after backup epoch
legal_epoch given backup array epochs epoch grows same was ends right plain told = record {
  begun = omega (arith, same.first, was.begun told, grows-longer grows told);
  accepted = accepted-grown given backup (running_history array) (history_of epoch) grows same was.begun was.accepted told;
  ends = ends told;
  legal = λ relied. (right told relied).legal;
  reshaped = λ relied. (right told relied).reshaped;
  plain = plain told;
}

-- the array that ran has ended
pub former_more : {B tells : Type 0} {before after : List Operation} (given : Given) (backup : Option ℕ) (array : Parts B) (epochs ended : List Epoch) (epoch : Epoch) → ended ≡ epochs ++ epoch ∷ [] → Grows tells before after → epoch.first ≡ array.first
    → IsGoing tells given before backup array epochs → (tells → IsLegalEpoch given after backup epoch) → (tells → epoch.last ≡ length after) → (tells → IfReliable given after backup epoch (IsEpochKept given after backup epoch))
    → tells → AreFormer given after backup (length after) ended
former_more {after = after} given backup array epochs ended epoch items grows first was legal last right told =
    let former = former_grown given backup array.first epoch.first epochs grows told (omega (arith, first)) (was.former told) in
    subst (λ (l : List Epoch). AreFormer given after backup (length after) l) (sym items) (record {
      legal = All-push (λ e. IsLegalEpoch given after backup e) epochs epoch former.legal (legal told);
      safe = All-push (λ e. IsSafeEpoch given after backup e) epochs epoch former.safe
          (λ relied.
          let fine = right told relied in
          subst (λ (n : ℕ). IsCrashSafe (world_of given after backup epoch) n epoch.entries.items × StaysSound (world_of given after backup epoch) n epoch.entries.items) (last told) (fine.safe, fine.sound));
      rising = subst (λ (l : List History). AreRising (length after) l) (sym (map-append history_of epochs (epoch ∷ [])))
          (rising_more (length after) (histories_of epochs) (history_of epoch) former.rising (legal told).begun (legal told).ends);
    })

-- the array that ran was halted
pub former_halted : {B : Type 0} (tells : Type 0) (given : B → Given) (tape : B → List Operation) (backup : Option ℕ) (array : Parts B) (bank : B) (epoch : Epoch) (epochs ended : List Epoch) → ended ≡ epochs ++ epoch ∷ [] → bank ≡ array.bank
    → epoch.uuid ≡ array.uuid → epoch.given ≡ array.given → epoch.first ≡ array.first → (tells → EndBy (length (tape array.bank)) epoch.entries.items)
    → (tells → epoch.last ≡ length (tape array.bank))
    → (tells → IfReliable (given bank) (tape bank) array.backup epoch (IsEpochKept (given bank) (tape bank) array.backup epoch))
    → (tells → IfShapeKept (given bank) (tape bank) array.backup epoch (IsPlainEpoch (given bank) (tape bank) array.backup epoch)) → IsGoing tells (given array.bank) (tape array.bank) backup array epochs
    → tells → AreFormer (given array.bank) (tape bank) backup (length (tape bank)) ended
former_halted {B = B} tells given tape backup array bank epoch epochs ended items same uuid slots first ends last right plain was =
    let known = given array.bank in
    let now = tape array.bank in
    let right_here : tells → IfReliable known now backup epoch (IsEpochKept known now backup epoch) = λ t. subst (λ (o : Option ℕ). IfReliable known now o epoch (IsEpochKept known now o epoch)) was.backup_is
    (subst (λ (b : B). IfReliable (given b) (tape b) array.backup epoch (IsEpochKept (given b) (tape b) array.backup epoch)) same (right t)) in
    let plain_here : tells → IfShapeKept known now backup epoch (IsPlainEpoch known now backup epoch) = λ t. subst (λ (o : Option ℕ). IfShapeKept known now o epoch (IsPlainEpoch known now o epoch)) was.backup_is
    (subst (λ (b : B). IfShapeKept (given b) (tape b) array.backup epoch (IsPlainEpoch (given b) (tape b) array.backup epoch)) same (plain t)) in
    subst (λ (b : B). tells → AreFormer known (tape b) backup (length (tape b)) ended) (sym same)
    (former_more known backup array epochs ended epoch items (record { more = λ t. ([], sym (append-nil now)) }) first was
    (legal_epoch known backup array epochs epoch (record { more = λ t. ([], sym (append-nil now)) }) (record { uuid = uuid; given = slots; first = first }) was ends right_here plain_here)
    last right_here)
