use Rattle.std.proofs.Common.{◌≡◌, ◌∷◌, ◌++◌, [], ℕ, List, length, refl, sym, ◌∙◌, ap, ap₂, arith}
use Rattle.array_type.specs.sb_specs_Reading.{is_reshaping, list_length}
use Rattle.array_type.specs.history_Flat.{next_number}
use Rattle.array_type.specs.history_Plain.{entries_of}
use Rattle.array_type.specs.history_the_Entry.{Entry}
use Rattle.array_type.specs.history_the_Event_TheVariants.{Visible, Refused}
use Rattle.array_type.proofs.array_members_MovedLaws.{grows-none}
use Rattle.array_type.proofs.array_call_specs_LossLaws.{ended-behind}
use Rattle.array_type.proofs.array_call_specs_ReadyLaws.{scope-same}
use Rattle.array_type.specs.reshape_request_Left.{phases_of}
use Rattle.array_type.proofs.history_invariant_Records.{begins-going}
use Rattle.array_type.specs.array_reshaping_state_Left.{visible_by}
use Rattle.array_type.specs.array_specs_Parts.{visible_size}
use Rattle.array_type.specs.array_specs_Visible.{visible_refusal}
use Rattle.array_type.proofs.array_specs_Lengths.{alone-keeps}
use Rattle.array_type.proofs.array_fixed_laws_Kept.{ready, rows-same, roomier}
use Rattle.array_type.proofs.array_fixed_laws_Limiting.{unlimited-fits, unlimited-stands, unlimited-plain, visible-fits, visible-ready}
use Rattle.array_type.specs.history_Transfers.{last_end_from}
use Rattle.array_type.proofs.Asked.{entries-alike}
use Rattle.array_type.proofs.Alike.{stays-at-rest}
use Rattle.array_calls.proofs.limiting.set_visible.Goals as goal

-- ---- refused

pub invariant_of-array-in-Some : goal.invariant_of-array-in-Some
invariant_of-array-in-Some g c =
    let still = ap (λ p. is_reshaping p.parts.members.newest) c.array.view_is ∙ c.requires.still in
    let was = (c.array.invariant.rests still).1 in
    let a = c.array.inside in
    let given = g.B.Bank.given a.bank in
    let who = c.args.who in
    let end = c.ops-end.result in
    let refusal = c.in-Some.refusal in
    let phases = length (phases_of a.ahead) in
    let number : who.number ≡ next_number who.caller a.epoch.entries.items = c.requires.next ∙ ap (λ p. next_number who.caller p.parts.entries) (sym c.array.view_is) in
    stays-at-rest (c.array.invariant.rests still).0
    (ready (entries_of who end (Refused refusal ∷ [])) was (rows-same a.members.newest)
    (unlimited-stands who end c.args.limit was.kept number c.requires.caller c.ops-end.ensures.count phases c.length-size.result refusal (sym c.in-Some.ensures))
    (unlimited-plain was who end (begins-going a.epoch.entries.items who number) c.requires.caller c.ops-end.ensures.count (grows-none (λ t. refl)) phases c.length-size.result c.args.limit refusal (sym c.in-Some.ensures))
    (λ slot. omega arith) (alone-keeps who end (Refused refusal) (λ n. refl) (λ limit. refl))
    refl (scope-same given a.backup refl c.append_entry.ensures.uuid c.append_entry.ensures.given) c.append_entry.ensures.first c.make_room.ensures.items c.append_entry.ensures.items
    (omega (arith, c.append_entry.ensures.room, c.in-Ok.ensures.ok)))

pub returns-in-Some-clause-answered : goal.returns-in-Some-clause-answered
returns-in-Some-clause-answered g c =
    let still = ap (λ p. is_reshaping p.parts.members.newest) c.array.view_is ∙ c.requires.still in
    let was = (c.array.invariant.rests still).1 in
    let a = c.array.inside in
    let who = c.args.who in
    let end = c.ops-end.result in
    let refusal = c.in-Some.refusal in
    let number : who.number ≡ next_number who.caller a.epoch.entries.items = c.requires.next ∙ ap (λ p. next_number who.caller p.parts.entries) (sym c.array.view_is) in
    let size : c.length-size.result ≡ list_length a.members.newest = c.length-size.ensures.length ∙ ap (λ p. list_length p.parts.members.newest) (sym c.array.view_is) in
    rw (← c.array.view_is) (record {
      end = end;
      at_end = c.ops-end.ensures.count;
      is = c.append_entry.ensures.items ∙ ap (λ (l : List Entry). l ++ entries_of who end (Refused refusal ∷ [])) c.make_room.ensures.items;
      fits = λ t ahead. unlimited-fits who end c.args.limit was.kept number c.requires.caller c.ops-end.ensures.count (length (phases_of a.ahead)) refusal
          (ap (λ (n : ℕ). visible_refusal (length (phases_of a.ahead)) n c.args.limit) (sym size) ∙ sym c.in-Some.ensures) t ahead;
    })

pub returns-in-Some-clause-judged : goal.returns-in-Some-clause-judged
returns-in-Some-clause-judged g c =
    let a = c.array.inside in
    let size : c.length-size.result ≡ list_length a.members.newest = c.length-size.ensures.length ∙ ap (λ p. list_length p.parts.members.newest) (sym c.array.view_is) in
    rw (← c.array.view_is) (ap (λ (n : ℕ). visible_refusal (length (phases_of a.ahead)) n c.args.limit) (sym size) ∙ sym c.in-Some.ensures)

pub returns-in-Some-clause-limited : goal.returns-in-Some-clause-limited
returns-in-Some-clause-limited g c = rw (← c.array.view_is) (record {
  limit_is = refl;
  bank = refl;
  uuid = c.append_entry.ensures.uuid;
  given = c.append_entry.ensures.given;
  first = c.append_entry.ensures.first;
  backup = refl;
  members = refl;
  work = refl;
  course = refl;
  ahead = refl;
})

pub returns-in-Some-clause-ended : goal.returns-in-Some-clause-ended
returns-in-Some-clause-ended g c =
    ended-behind (g.B.Bank.tape c.array.inside.bank) c.append_entry.new.epoch.first c.make_room.new.self.items c.args.who c.ops-end.result [] (Refused c.in-Some.refusal) c.append_entry.ensures.items c.ops-end.ensures.count

-- ---- limited

pub invariant_of-array-2 : goal.invariant_of-array-2
invariant_of-array-2 g c =
    let still = ap (λ p. is_reshaping p.parts.members.newest) c.array.view_is ∙ c.requires.still in
    let was = (c.array.invariant.rests still).1 in
    let a = c.array.inside in
    let given = g.B.Bank.given a.bank in
    let who = c.args.who in
    let number : who.number ≡ next_number who.caller a.epoch.entries.items = c.requires.next ∙ ap (λ p. next_number who.caller p.parts.entries) (sym c.array.view_is) in
    let size : c.length-size.result ≡ list_length a.members.newest = c.length-size.ensures.length ∙ ap (λ p. list_length p.parts.members.newest) (sym c.array.view_is) in
    stays-at-rest (c.array.invariant.rests still).0
    (visible-ready who c.ops-end.result c.args.limit c.visible_of-count.result was number c.requires.caller c.ops-end.ensures.count
    (c.visible_of-count.ensures.value ∙ ap (λ (n : ℕ). visible_by n c.args.limit) size)
    (scope-same given a.backup refl c.append_entry-2.ensures.uuid c.append_entry-2.ensures.given) c.append_entry-2.ensures.first c.make_room.ensures.items c.append_entry-2.ensures.items
    (omega (arith, c.append_entry-2.ensures.room, c.in-Ok.ensures.ok)))

pub returns-clause-answered : goal.returns-clause-answered
returns-clause-answered g c =
    let still = ap (λ p. is_reshaping p.parts.members.newest) c.array.view_is ∙ c.requires.still in
    let was = (c.array.invariant.rests still).1 in
    let a = c.array.inside in
    let who = c.args.who in
    let end = c.ops-end.result in
    let number : who.number ≡ next_number who.caller a.epoch.entries.items = c.requires.next ∙ ap (λ p. next_number who.caller p.parts.entries) (sym c.array.view_is) in
    let size : c.length-size.result ≡ list_length a.members.newest = c.length-size.ensures.length ∙ ap (λ p. list_length p.parts.members.newest) (sym c.array.view_is) in
    let count : c.visible_of-count.result ≡ visible_size a.members c.args.limit = c.visible_of-count.ensures.value ∙ ap (λ (n : ℕ). visible_by n c.args.limit) size in
    rw (← c.array.view_is) (record {
      end = end;
      at_end = c.ops-end.ensures.count;
      is = c.append_entry-2.ensures.items ∙ ap₂ (λ (l : List Entry) (n : ℕ). l ++ entries_of who end (Visible c.args.limit n ∷ [])) c.make_room.ensures.items count;
      fits = λ t ahead. visible-fits who end c.args.limit was.kept number c.requires.caller c.ops-end.ensures.count (visible_size a.members c.args.limit) t;
    })

pub returns-clause-judged : goal.returns-clause-judged
returns-clause-judged g c =
    let a = c.array.inside in
    let size : c.length-size.result ≡ list_length a.members.newest = c.length-size.ensures.length ∙ ap (λ p. list_length p.parts.members.newest) (sym c.array.view_is) in
    rw (← c.array.view_is) (
      ap (λ (n : ℕ). visible_refusal (length (phases_of a.ahead)) n c.args.limit) (sym size) ∙ sym c.in_default.ensures,
      c.visible_of-count.ensures.value ∙ ap (λ (n : ℕ). visible_by n c.args.limit) size,
    )

pub returns-clause-limited : goal.returns-clause-limited
returns-clause-limited g c = rw (← c.array.view_is) (record {
  limit_is = refl;
  bank = refl;
  uuid = c.append_entry-2.ensures.uuid;
  given = c.append_entry-2.ensures.given;
  first = c.append_entry-2.ensures.first;
  backup = refl;
  members = refl;
  work = refl;
  course = refl;
  ahead = refl;
})

pub returns-clause-ended : goal.returns-clause-ended
returns-clause-ended g c =
    ended-behind (g.B.Bank.tape c.array.inside.bank) c.append_entry-2.new.epoch.first c.make_room.new.self.items c.args.who c.ops-end.result [] (Visible c.args.limit c.visible_of-count.result) c.append_entry-2.ensures.items c.ops-end.ensures.count

-- ---- nothing was done

pub invariant_of-array : goal.invariant_of-array
invariant_of-array g c =
    let was = c.array.invariant.rests (ap (λ p. is_reshaping p.parts.members.newest) c.array.view_is ∙ c.requires.still) in
    stays-at-rest was.0 (roomier was.1 c.make_room.ensures.items c.make_room.ensures.keeps)

pub returns-in-Err-clause-unchanged : goal.returns-in-Err-clause-unchanged
returns-in-Err-clause-unchanged g c = entries-alike c.make_room.new.self.items c.array.view_is c.make_room.ensures.items

pub returns-in-Err-clause-answered : goal.returns-in-Err-clause-answered
returns-in-Err-clause-answered g c = c.make_room.ensures.items ∙ ap (λ p. p.parts.entries) c.array.view_is

pub returns-in-Err-clause-ended : goal.returns-in-Err-clause-ended
returns-in-Err-clause-ended g c = λ t. ap (λ (l : List Entry). last_end_from c.array.inside.epoch.first l) c.make_room.ensures.items ∙ ((c.array.invariant.rests (ap (λ p. is_reshaping p.parts.members.newest) c.array.view_is ∙ c.requires.still)).1.kept.recorded t).ended

pub check_number-requires : goal.check_number-requires
check_number-requires g c =
    c.requires.next ∙ ap (λ p. next_number c.args.who.caller p.parts.entries) (sym c.array.view_is) ∙ ap (λ (l : List Entry). next_number c.args.who.caller l) (sym c.make_room.ensures.items)

-- ---- no reshape is active then

pub returns-in-Some-clause-still : goal.returns-in-Some-clause-still
returns-in-Some-clause-still g c = ap (λ p. is_reshaping p.parts.members.newest) c.array.view_is ∙ c.requires.still

pub returns-clause-still : goal.returns-clause-still
returns-clause-still g c = ap (λ p. is_reshaping p.parts.members.newest) c.array.view_is ∙ c.requires.still

pub returns-in-Err-clause-still : goal.returns-in-Err-clause-still
returns-in-Err-clause-still g c = ap (λ p. is_reshaping p.parts.members.newest) c.array.view_is ∙ c.requires.still
