-- What an array without an active reshape keeps, after a call.
use Rattle.std.proofs.Common.{◌≡◌, ◌⊎◌, inl, inr, ℕ, ◌*◌, ◌<◌, ◌≤◌, true, false, Option, List, [], ◌++◌, refl, sym, ◌∙◌, ap, subst, arith}
use Rattle.std.specs.List.{list_any}
use Rattle.std.proofs.lemmas.List.Elements.{All-append}
use Rattle.array_fixed_invariant.specs.raid_types_the_Shape.{Shape}
use Rattle.array_fixed_invariant.specs.bank_the_Operation.{Operation}
use Rattle.array_fixed_invariant.specs.bank_Given.{Given, NeverFalls}
use Rattle.array_fixed_invariant.specs.sb_codec_the_Sb.{Sb}
use Rattle.array_fixed_invariant.specs.reshape_plan_Plans.{AreSound}
use Rattle.array_fixed_invariant.specs.sb_specs_the_Members.{Members}
use Rattle.array_fixed_invariant.specs.sb_specs_Reading.{Scope, shape_of, list_length}
use Rattle.array_fixed_invariant.specs.history_the_Entry.{Entry}
use Rattle.array_fixed_invariant.specs.history_Flat.{length_of}
use Rattle.array_fixed_invariant.specs.array_members_the_Work.{Work}
use Rattle.array_fixed_invariant.specs.array_members_Moving.{IsMoved}
use Rattle.array_fixed_invariant.proofs.array_members_Fit.{list-alike}
use Rattle.array_fixed_invariant.proofs.array_call_specs_NowLaws.{length-more}
use Rattle.array_fixed_invariant.specs.reshape_request_the_PhasesLeft.{PhasesLeft}
use Rattle.array_fixed_invariant.specs.reshape_request_Left.{phases_of}
use Rattle.array_fixed_invariant.proofs.history_invariant_Tests.{none-before}
use Rattle.array_fixed_invariant.specs.Still.{IsStill}
use Rattle.array_specs.specs.Parts.{still_left}
use Rattle.array_specs.specs.Plans.{turns_shape}
use Rattle.array_specs.proofs.Lengths.{IsLengthKept}
use Rattle.array_specs.proofs.VisibleLaws.{limit-kept}
use Rattle.array_fixed_laws.specs.Plain.{MayTellPlainly, AreToldPlainly}
use Rattle.array_fixed_laws.specs.Ready.{IsReady}
use Rattle.array_fixed_laws.proofs.Plain.{IsLeftPlain, turns-first}

-- as many rows of the same shape, and as long a list
pub record AreRowsSame (old new : Sb) : Type 0 where
  pub shape : shape_of new ≡ shape_of old
  pub size : new.size ≡ old.size
  pub long : list_length new ≡ list_length old

pub rows-same : (sb : Sb) → AreRowsSame sb sb
rows-same sb = record { shape = refl; size = refl; long = refl }

pub rows-moved : (given : Given) (old new : Members) → IsMoved given old new → AreRowsSame old.newest new.newest
rows-moved given old new moved = record { shape = moved.shape; size = moved.size; long = list-alike old.newest new.newest moved.reshape moved.shape moved.size }

-- phases are ahead only where a plan was told, also behind more entries
pub told-still : (ahead : PhasesLeft) (entries added : List Entry) → (phases_of ahead ≡ []) ⊎ (list_any (λ e. turns_shape e.event) entries ≡ true)
    → (phases_of ahead ≡ []) ⊎ (list_any (λ e. turns_shape e.event) (entries ++ added) ≡ true)
told-still ahead entries added (inl none) = inl none
told-still ahead entries added (inr told) = inr (turns-first entries added told)

-- as long as none of them turns the shape, they tell no refusal of a reshape
pub plainly-more : (entries added all : List Entry) → all ≡ entries ++ added → (list_any (λ e. turns_shape e.event) entries ≡ false → AreToldPlainly entries) → (list_any (λ e. turns_shape e.event) (entries ++ added) ≡ false → AreToldPlainly added)
    → list_any (λ e. turns_shape e.event) all ≡ false → AreToldPlainly all
plainly-more entries added all is was left none =
    let here : list_any (λ e. turns_shape e.event) (entries ++ added) ≡ false = ap (λ (l : List Entry). list_any (λ e. turns_shape e.event) l) (sym is) ∙ none in
    subst AreToldPlainly (sym is) (All-append (λ e. MayTellPlainly e.event) entries added (was (none-before (λ e. turns_shape e.event) entries added here)) (left here))

-- The array is ready after a call's last step in memory.
pub ready : {tells : Type 0} {given given' : Given} {tape tape' : List Operation} {scope scope' : Scope} {first first' : ℕ} {entries mid entries' : List Entry} {members members' : Members}
    {work work' : Work} {ahead : PhasesLeft} {limit : Option ℕ} {steps steps' room room' rows buffer far_rows far_buffer : ℕ} {before after : ℕ → ℕ} (added : List Entry)
    → IsReady tells given tape scope first entries members work ahead limit before steps room rows buffer far_rows far_buffer
    → AreRowsSame members.newest members'.newest
    → IsStill tells given tape' scope first (entries ++ added) members' work' (still_left work' members' ahead) → IsLeftPlain tells given tape' scope first entries added members'
    → NeverFalls before after → IsLengthKept added
    → given' ≡ given → scope' ≡ scope → first' ≡ first → mid ≡ entries → entries' ≡ mid ++ added → 50 * steps' < room'
    → IsReady tells given' tape' scope' first' entries' members' work' ahead limit after steps' room' rows buffer far_rows far_buffer
ready {tells = tells} {given = given} {given' = given'} {tape' = tape'} {scope = scope} {scope' = scope'} {first = first} {first' = first'} {entries = entries} {mid = mid} {members = members} {members' = members'}
    {work' = work'} {ahead = ahead} {limit = limit} {steps' = steps'} {room' = room'} {rows = rows} {buffer = buffer} {far_rows = far_rows} {far_buffer = far_buffer} {after = after}
    added was same kept left rises quiet same_given scope_is first_is mid_is is room_left =
    subst (λ (l : List Entry). IsReady tells given' tape' scope' first' l members' work' ahead limit after steps' room' rows buffer far_rows far_buffer) (sym (is ∙ ap (λ (l : List Entry). l ++ added) mid_is))
    (subst (λ (n : ℕ). IsReady tells given' tape' scope' n (entries ++ added) members' work' ahead limit after steps' room' rows buffer far_rows far_buffer) (sym first_is)
    (subst (λ (s : Scope). IsReady tells given' tape' s first (entries ++ added) members' work' ahead limit after steps' room' rows buffer far_rows far_buffer) (sym scope_is)
    (subst (λ (g : Given). IsReady tells g tape' scope first (entries ++ added) members' work' ahead limit after steps' room' rows buffer far_rows far_buffer) (sym same_given)
    (record {
      kept = kept;
      sized = subst (λ (n : ℕ). length_of n (entries ++ added) ≡ n) (sym same.long)
          (length-more (list_length members.newest) entries added was.sized (quiet.long (list_length members.newest)));
      limited = limit-kept limit entries added was.limited (quiet.free limit);
      planned = subst (λ (n : ℕ). AreSound (shape_of members'.newest) n (phases_of ahead)) (sym same.size)
          (subst (λ (s : Shape). AreSound s members.newest.size (phases_of ahead)) (sym same.shape) was.planned);
      failed = λ slot lt out. let had = was.failed slot lt out in let more = rises slot in omega (arith, had, more);
      room_left = room_left;
      rows_fit = was.rows_fit;
      buffer_fits = was.buffer_fits;
      far_rows_fit = was.far_rows_fit;
      far_buffer_fits = was.far_buffer_fits;
      plain = left.plain;
      plainly = plainly-more entries added (entries ++ added) refl was.plainly left.plainly;
      ahead_told = told-still ahead entries added was.ahead_told;
    }))))

-- with other buffers for its rows, that have room as before
pub with-buffers : {tells : Type 0} {given : Given} {tape : List Operation} {scope : Scope} {first : ℕ} {entries : List Entry} {members : Members}
    {work : Work} {ahead : PhasesLeft} {limit : Option ℕ} {steps room rows buffer rows' buffer' far_rows far_buffer : ℕ} {faults : ℕ → ℕ} → 128 ≤ rows' → 1048576 ≤ buffer'
    → IsReady tells given tape scope first entries members work ahead limit faults steps room rows buffer far_rows far_buffer
    → IsReady tells given tape scope first entries members work ahead limit faults steps room rows' buffer' far_rows far_buffer
with-buffers rows_fit buffer_fits was = record {
  kept = was.kept;
  sized = was.sized;
  limited = was.limited;
  planned = was.planned;
  failed = was.failed;
  room_left = was.room_left;
  rows_fit = rows_fit;
  buffer_fits = buffer_fits;
  far_rows_fit = was.far_rows_fit;
  far_buffer_fits = was.far_buffer_fits;
  plain = was.plain;
  plainly = was.plainly;
  ahead_told = was.ahead_told;
}

-- with room for more entries
pub roomier : {tells : Type 0} {given : Given} {tape : List Operation} {scope : Scope} {first : ℕ} {entries entries' : List Entry} {members : Members}
    {work : Work} {ahead : PhasesLeft} {limit : Option ℕ} {steps room room' rows buffer far_rows far_buffer : ℕ} {faults : ℕ → ℕ}
    → IsReady tells given tape scope first entries members work ahead limit faults steps room rows buffer far_rows far_buffer → entries' ≡ entries → room ≤ room'
    → IsReady tells given tape scope first entries' members work ahead limit faults steps room' rows buffer far_rows far_buffer
roomier {tells = tells} {given = given} {tape = tape} {scope = scope} {first = first} {members = members} {work = work} {ahead = ahead} {limit = limit} {steps = steps} {room' = room'}
    {rows = rows} {buffer = buffer} {far_rows = far_rows} {far_buffer = far_buffer} {faults = faults} was same more =
    subst (λ (l : List Entry). IsReady tells given tape scope first l members work ahead limit faults steps room' rows buffer far_rows far_buffer) (sym same) (record {
      kept = was.kept;
      sized = was.sized;
      limited = was.limited;
      planned = was.planned;
      failed = was.failed;
      room_left = (let had = was.room_left in omega (arith, had, more));
      rows_fit = was.rows_fit;
      buffer_fits = was.buffer_fits;
      far_rows_fit = was.far_rows_fit;
      far_buffer_fits = was.far_buffer_fits;
      plain = was.plain;
      plainly = was.plainly;
      ahead_told = was.ahead_told;
    })
