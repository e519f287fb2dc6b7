-- What stored superblocks say of an array without a reshape, none of whose roles is missing: its shape and its size.
use Rattle.std.proofs.Common.{◌≡◌, ℕ, Some, List, length, sym, ◌∙◌, ap, arith}
use Rattle.array_transition.proofs.raid_layout_Limits.{limited}
use Rattle.array_reply_specs.specs.bank_the_Operation.{Operation}
use Rattle.array_reply_specs.specs.bank_Given.{Given}
use Rattle.array_transition.specs.sb_codec_the_Sb.{Sb}
use Rattle.array_transition.specs.sb_specs_the_Members.{Members}
use Rattle.array_transition.specs.sb_specs_Reading.{Scope, Reading, is_reshaping, shape_of}
use Rattle.array_transition.specs.stripe_row_Rows.{present}
use Rattle.array_reply_specs.specs.history_the_Entry.{Entry}
use Rattle.array_transition.specs.history_World.{reading_at}
use Rattle.array_transition.proofs.crash_views_Alike.{shape-alike}
use Rattle.array_transition.specs.crash_safety_laws_Safety.{HasLiveSlot}
use Rattle.array_transition.proofs.crash_safety_laws_Steady.{held-read}
use Rattle.array_transition.specs.array_members_the_Work.{Work}
use Rattle.array_transition.proofs.array_members_LiveLeft.{holder-left, left-steady}
use Rattle.array_transition.proofs.array_members_MemberLaws.{holder-is}
use Rattle.array_transition.specs.reshape_request_Fitting.{SaysSameShape}
use Rattle.array_transition.specs.history_invariant_Safe.{world_in}
use Rattle.array_transition.proofs.history_invariant_Lengths.{now-drawn}
use Rattle.array_reply_specs.specs.history_invariant_laws_Reliable.{IsReliable}
use Rattle.array_transition.specs.array_fixed_invariant_Still.{AreNoneMissing, AreAtRest, IsStill}
use Rattle.array_transition.proofs.array_fixed_invariant_Leaving.{safe-now}
use Rattle.array_transition.proofs.array_call_specs_DegradedLaws.{within-count}

-- some slot is live
pub whole-live : (given : Given) (m : Members) → AreAtRest given m → AreNoneMissing m → HasLiveSlot m
whole-live given m rest whole =
    let least = (limited (shape_of m.newest) rest.placed.fit.valid.old).least in
    let held = holder-is given m rest.placed whole 0 (within-count given m rest.placed 0 (omega (arith, least))) in
    holder-left given m 0 _ rest.placed rest.unlost held

pub read-whole : {tells : Type 0} {given : Given} {tape : List Operation} {scope : Scope} {first : ℕ} {entries : List Entry} {m : Members} {work : Work} {left : ℕ}
    → IsStill tells given tape scope first entries m work left → tells → IsReliable (world_in given tape scope first) entries → AreNoneMissing m
    → (r : Reading) × (reading_at (world_in given tape scope first) (length tape) ≡ Some r) × SaysSameShape r.newest m.newest
unfolding reading_at
read-whole {given = given} {tape = tape} {scope = scope} {m = m} was t right whole =
    let live = whole-live given m was.members_are whole in
    let steady = left-steady live (safe-now was live t right.fills right.room) in
    let said = held-read scope given steady.former tape steady.since.held (present given tape) (record { eighth = λ slot seen. now-drawn given tape slot 8; ninth = λ slot seen. now-drawn given tape slot 9 }) in
    let same : m.newest ≡ steady.former.newest = ap (λ (k : Members). k.newest) steady.since.since in (
      said.0,
      said.1,
      record {
        shape = sym (shape-alike steady.former.newest said.0.newest said.2.array) ∙ sym (ap shape_of same);
        size = sym said.2.array.size ∙ sym (ap (λ (sb : Sb). sb.size) same);
        reshaping = sym said.2.array.reshaping ∙ sym (ap is_reshaping same);
      },
    )
