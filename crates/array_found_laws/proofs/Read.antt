-- What the slots hold is read as the elected members say.
use Rattle.std.proofs.Common.{◌≡◌, ℕ, ◌<◌, cond, List, length, take, Option, None, refl, sym, ◌∙◌, ap, subst}
use Rattle.std.specs.Option.{option_or, option_map_or}
use Rattle.std.proofs.lemmas.List.{get_or-take}
use Rattle.array_call_specs.specs.raid_types_the_Role.{Role}
use Rattle.array_call_specs.specs.raid_types_the_Role_TheVariants.{Whole, Recovering, Missing}
use Rattle.array_call_specs.specs.sb_codec_the_Sb.{Sb}
use Rattle.array_call_specs.specs.bank_Given.{Given, Sizes, sizes}
use Rattle.array_call_specs.specs.sb_specs_the_Members.{Members}
use Rattle.array_call_specs.specs.sb_specs_Reading.{Scope, Reading, is_reshaping, role_state, rows_held, holder, data_offset_of}
use Rattle.array_call_specs.specs.sb_specs_Verdict.{members_refusal}
use Rattle.array_call_specs.specs.sb_specs_Election.{reading_in}
use Rattle.array_call_specs.specs.sb_specs_Reads.{SaysSame, roles_refusal}
use Rattle.array_call_specs.specs.stripe_row_Rows.{reading_of}
use Rattle.array_call_specs.specs.array_members_Placed.{IsPlaced}
use Rattle.array_call_specs.specs.crash_views_Regions.{IsReadOf}
use Rattle.array_found_laws.specs.Found.{AreElected}
use Rattle.array_found_laws.proofs.Elected.{elected-passes, elected-unrefused, reading-made}

says-itself : (sb : Sb) → SaysSame sb sb
says-itself sb = record {
  level = refl;
  layout = refl;
  size = refl;
  chunksize = refl;
  raid_disks = refl;
  new_level = refl;
  reshape_position = refl;
  delta_disks = refl;
  new_layout = refl;
  new_chunk = refl;
  resync_offset = refl;
  reshaping = refl;
  backward = refl;
}

module _ (bank : Given) (given : ℕ) (m : Members) (are : AreElected bank given m) (placed : IsPlaced bank m) where
  abbrev r : Reading
  r = reading_in bank.slots m

  abbrev X : List (Option Sb)
  X = take bank.slots m.own

  abbrev sec : ℕ → ℕ
  sec = (sizes bank).sectors

  offset-is : (slot : ℕ) → slot < bank.slots → data_offset_of r slot ≡ data_offset_of (reading_of m) slot
  offset-is slot lt = ap (λ (o : Option Sb). option_map_or (λ sb. sb.data_offset) o 0) (get_or-take bank.slots m.own slot None lt)

  rows-are : (role : ℕ) → rows_held r (role_state (reading_of m) role) ≡ rows_held (reading_of m) (role_state (reading_of m) role)
  rows-are role = of (role_state (reading_of m) role) refl
    where
      of : (state : Role) → role_state (reading_of m) role ≡ state → rows_held r state ≡ rows_held (reading_of m) state
      of (Whole slot) is = refl
      of (Recovering slot) is =
          ap (λ (o : Option Sb). cond (is_reshaping m.newest) 0 (option_map_or (λ sb. sb.recovery_offset) o 0)) (get_or-take bank.slots m.own slot None (placed.holders role slot (ap holder is)).known)
      of Missing is = refl

  -- as many superblocks are read as the bank has slots
  same : reading_in (length (take bank.slots m.own)) m ≡ reading_in bank.slots m
  same i = record { newest = m.newest; own = sym (reading-made sec X (reading_in (length X) m) are.elected.says).1 i; roles = m.roles; spares = m.spares }

  passes : members_refusal (sizes bank).sectors (reading_in bank.slots m) ≡ None
  passes = subst (λ (q : Reading). members_refusal (sizes bank).sectors q ≡ None) same (elected-passes sec X m.lost m are.elected)

  none-for-roles : roles_refusal m.newest m.roles ≡ None
  none-for-roles = let u = elected-unrefused sec X m.lost m are.elected in λ i. option_or (u.missing i) (option_or (u.degraded i) (option_or (u.unit i) None))

  pub found-read : (scope : Scope) → scope.sizes ≡ sizes bank → IsReadOf scope m (reading_in bank.slots m)
  found-read scope sizes_are = record {
    array = says-itself m.newest;
    roles = refl;
    rows = rows-are;
    offsets = λ role slot held. offset-is slot (placed.holders role slot held).known;
    refused = ap (λ (z : Sizes). members_refusal z.sectors r) sizes_are ∙ passes ∙ sym none-for-roles;
  }
