-- A new array is read whole, and holds zeros.
use Rattle.std.proofs.Common.{◌≡◌, ℕ, zero, suc, ◌+◌, ◌*◌, ◌<◌, ◌==◌, Bool, true, false, cond, Option, Some, None, List, [], ◌∷◌, ◌++◌, replicate, get_or, unwrap_or, refl, sym, ◌∙◌, ap, ap₂, subst, arith}
use Rattle.std.proofs.lemmas.Bool.Decides.{nat_tests}
use Rattle.std.proofs.lemmas.List.{get_or-take}
use Rattle.std.specs.Prelude.{slice_index, bit_xor, ⊤}
use Rattle.std.specs.Option.{option_map_or}
use Rattle.array_found_laws.specs.raid_types_Search.{tabulate}
use Rattle.array_found_laws.specs.raid_types_Sectors.{Sector, zero_sector}
use Rattle.array_found_laws.specs.raid_types_Shapes.{is_valid_shape, data_disks}
use Rattle.array_found_laws.specs.raid_types_the_RowRoles.{RowRoles}
use Rattle.array_found_laws.specs.raid_types_the_Shape.{Shape}
use Rattle.array_found_laws.specs.raid_types_the_Role.{Role}
use Rattle.array_found_laws.specs.raid_types_the_Role_TheVariants.{Whole, Missing}
use Rattle.array_found_laws.specs.raid_types_the_Refusal_TheVariants.{NoSuperblock}
use Rattle.array_found_laws.proofs.raid_types_Tabulated.{get_or-tabulate}
use Rattle.array_found_laws.specs.sb_codec_the_Sb.{Sb}
use Rattle.bank.specs.Given.{Given}
use Rattle.bank.specs.Tape.{Contents}
use Rattle.array_found_laws.specs.raid_gf256_Field.{product, power_of_two}
use Rattle.array_found_laws.proofs.raid_gf256_FieldLaws.{product-zero_r}
use Rattle.array_found_laws.specs.raid_layout_Layout.{place, row_roles}
use Rattle.array_found_laws.proofs.raid_layout_Places.{row_roles-p_below, row_roles-q_apart, place-role_below, place-row_below}
use Rattle.array_found_laws.specs.raid_parity_Exponents.{is_data, exponent}
use Rattle.array_found_laws.specs.raid_parity_Parity.{data_sum, p_holds, q_holds, q_holds_at, AreEquationsMet}
use Rattle.array_found_laws.proofs.raid_parity_Contents.{whole-good}
use Rattle.array_found_laws.specs.sb_specs_the_Members.{Members}
use Rattle.array_found_laws.specs.sb_specs_Reading.{Scope, Reading, role_state, holder, data_offset_of}
use Rattle.array_found_laws.specs.sb_specs_Election.{reading_in}
use Rattle.sb_add_spare.specs.stripe_row_Rows.{reading_of}
use Rattle.sb_add_spare.specs.history_Stands.{verdict, refusal_of}
use Rattle.array_create_assemble.specs.declared.spec.CreateSpec.{CreateSpec}
use Rattle.sb_add_spare.specs.array_members_Whole.{Places, AreFit, in_row, IsReadWhole}
use Rattle.sb_add_spare.specs.array_members_Placed.{places_of}
use Rattle.sb_add_spare.proofs.array_members_Fit.{valid, multiple, short}
use Rattle.sb_add_spare.proofs.array_members_WholeLaws.{stands-length, stands-at}
use Rattle.array_create_assemble.specs.declared.opening.Opened.{Opened}
use Rattle.array_create_assemble.specs.Opening.{scope_of, IsOpened}
use Rattle.array_create_assemble.specs.Filling.{AreZeros}
use Rattle.array_create_assemble.specs.Made.{IsNew}
use Rattle.array_create_assemble.specs.NewList.{HoldsZeros, NewArraysAreZeros}
use Rattle.array_create_assemble.proofs.MadeLaws.{same-tabulated}

zero_term : (b : Bool) (w : ℕ) → bit_xor (cond b (product w 0) 0) 0 ≡ 0
zero_term true w = ap (λ (n : ℕ). bit_xor n 0) (product-zero_r w)
zero_term false w = refl

zero_list_sum : (weight : ℕ → ℕ) (roles : RowRoles) (role n : ℕ) → data_sum weight roles role (replicate n 0) ≡ 0
zero_list_sum weight roles role zero = refl
zero_list_sum weight roles role (suc n) =
    ap (λ (rest : ℕ). bit_xor (cond (is_data roles role) (product (weight role) 0) 0) rest) (zero_list_sum weight roles (role + 1) n)
    ∙ zero_term (is_data roles role) (weight role)

one_more : (n : ℕ) → ◌≡◌ {A = List ℕ} (replicate n 0 ++ 0 ∷ []) (0 ∷ replicate n 0)
one_more zero = refl
one_more (suc n) = ap (λ (l : List ℕ). 0 ∷ l) (one_more n)

tabulate-zeros : (n : ℕ) → ◌≡◌ {A = List ℕ} (tabulate n (λ r. 0)) (replicate n 0)
unfolding tabulate
tabulate-zeros zero = refl
tabulate-zeros (suc n) = ap (λ (l : List ℕ). l ++ 0 ∷ []) (tabulate-zeros n) ∙ one_more n

zero_sum : (weight : ℕ → ℕ) (roles : RowRoles) (n : ℕ) → data_sum weight roles 0 (tabulate n (λ r. 0)) ≡ 0
zero_sum weight roles n = ap (λ (l : List ℕ). data_sum weight roles 0 l) (tabulate-zeros n) ∙ zero_list_sum weight roles 0 n

same_number : (a b : ℕ) → a ≡ b → (a == b) ≡ true
same_number a b e = grind (arith, nat_tests, e)

zero_column : (n k : ℕ) → k < n → slice_index (tabulate n (λ r. 0)) k ≡ 0
zero_column n k lt = get_or-tabulate n (λ r. 0) k 0 lt

get_or-zeros : (n k : ℕ) → ◌≡◌ {A = ℕ} (get_or (replicate n 0) k 0) 0
get_or-zeros zero k = refl
get_or-zeros (suc n) zero = refl
get_or-zeros (suc n) (suc k) = get_or-zeros n k

zero_byte : (at : ℕ) → get_or zero_sector at 0 ≡ 0
unfolding zero_sector
zero_byte at = get_or-zeros 512 at

zero_q : (roles : RowRoles) (n : ℕ) (q : Option ℕ) → ((k : ℕ) → q ≡ Some k → k < n) → q_holds_at roles (tabulate n (λ r. 0)) q ≡ true
zero_q roles n None within = refl
zero_q roles n (Some k) within = same_number _ _ (zero_sum (λ role. power_of_two (exponent roles k role)) roles n ∙ sym (zero_column n k (within k refl)))

zero_bytes : (at n : ℕ) → tabulate n (λ r. get_or zero_sector at 0) ≡ tabulate n (λ r. 0)
zero_bytes at n = ap (λ (b : ℕ). tabulate n (λ r. b)) (zero_byte at)

-- a row of zeros is good
pub zero_good : (shape : Shape) (row : ℕ) → is_valid_shape shape ≡ true → AreEquationsMet (row_roles shape row) (tabulate shape.disks (λ role. Some zero_sector))
zero_good shape row valid =
    let roles = row_roles shape row in
    whole-good roles shape.disks (λ role. zero_sector)
    (λ at lt. ap (λ (c : List ℕ). p_holds roles c) (zero_bytes at shape.disks)
    ∙ same_number _ _ (zero_sum (λ role. 1) roles shape.disks ∙ sym (zero_column shape.disks roles.p (row_roles-p_below shape valid row))))
    (λ at lt. ap (λ (c : List ℕ). q_holds roles c) (zero_bytes at shape.disks)
    ∙ zero_q roles shape.disks roles.q (λ k is. (row_roles-q_apart shape valid row k is).0))

-- ---- a new array

module _ (bank : Given) (backup : Option ℕ) (spec : CreateSpec) (c : Contents) (opened : Opened) (new : IsNew bank spec opened)
    (is : IsOpened ⊤ bank c backup (Some spec.uuid) opened) (zeros : AreZeros spec.shape.disks spec c) where
  abbrev members : Members
  members = opened.members

  abbrev p : Places
  p = places_of opened.members

  abbrev scope : Scope
  scope = scope_of bank backup opened.given opened.members.newest.set_uuid

  abbrev r : Reading
  r = reading_in bank.slots opened.members

  disks-is : p.shape.disks ≡ spec.shape.disks
  disks-is = ap (λ (s : Shape). s.disks) new.shape

  state-is : (role : ℕ) → role < p.shape.disks → role_state (reading_of members) role ≡ Whole role
  state-is role lt =
      ap (λ l. get_or l role Missing) new.members.roles
      ∙ get_or-tabulate spec.shape.disks (λ role. Whole role) role Missing (omega (arith, lt, disks-is))

  slot-is : (role : ℕ) → role < p.shape.disks → p.slot role ≡ role
  slot-is role lt = ap (λ (s : Role). unwrap_or (holder s) 0) (state-is role lt)

  offset-is : (role : ℕ) → role < p.shape.disks → p.offset role ≡ spec.offset
  offset-is role lt =
      let found = new.members.own.made role (omega (arith, lt, disks-is)) in
      ap (λ (n : ℕ). data_offset_of (reading_of members) n) (slot-is role lt)
      ∙ ap (λ (o : Option Sb). option_map_or (λ sb. sb.data_offset) o 0) found.1 ∙ ap (λ n. n.data_offset) found.2.made

  zero-at : (role row : ℕ) → role < p.shape.disks → row < p.size → in_row p c row role ≡ zero_sector
  zero-at role row lt within =
      ap₂ (λ (s o : ℕ). c s (o + row)) (slot-is role lt) (offset-is role lt)
      ∙ zeros role row (omega (arith, lt, disks-is)) (omega (arith, within, new.size))

  fit : AreFit p
  fit = record { valid = valid bank members new.placed; multiple = multiple bank members new.placed; short = short bank members new.placed }

  accepted : refusal_of scope r ≡ None
  unfolding verdict
  accepted = sym (ap (λ (found : Option Reading). option_map_or (refusal_of scope) found (Some NoSuperblock)) (is.says tt)) ∙ is.accepted tt

  known : (role : ℕ) → role < p.shape.disks → role < bank.slots
  known role lt = (new.placed.holders role role (ap holder (state-is role lt))).known

  pub read-whole : IsReadWhole scope p r
  read-whole = record {
    accepted = accepted;
    still = is.still;
    shape = refl;
    size = refl;
    whole = λ role lt. state-is role lt ∙ ap (λ (n : ℕ). Whole n) (sym (slot-is role lt));
    offset = λ role lt.
        ap (λ (n : ℕ). data_offset_of r n) (slot-is role lt)
        ∙ ap (λ (o : Option Sb). option_map_or (λ sb. sb.data_offset) o 0) (get_or-take bank.slots members.own role None (known role lt))
        ∙ sym (ap (λ (n : ℕ). data_offset_of (reading_of members) n) (slot-is role lt));
  }

  pub holds-zeros : HoldsZeros scope spec p c
  holds-zeros = record {
    size = ap₂ (λ (s : Shape) (n : ℕ). data_disks s * n) new.shape new.size;
    count = stands-length scope p fit c r read-whole (is.says tt);
    each = λ x lt. stands-at scope p fit c r read-whole (is.says tt) x lt
        ∙ zero-at (place p.shape x).role (place p.shape x).row (place-role_below p.shape fit.valid x) (place-row_below p.shape fit.valid x p.size fit.multiple lt);
    good = λ row lt. subst (λ l. AreEquationsMet (row_roles p.shape row) l)
        (same-tabulated p.shape.disks (λ role. Some zero_sector) (λ role. Some (in_row p c row role)) (λ role below. ap (λ (v : Sector). Some v) (sym (zero-at role row below lt))))
        (zero_good p.shape row fit.valid);
  }

pub new-arrays-are-zeros : NewArraysAreZeros
new-arrays-are-zeros bank backup spec c opened new is zeros =
    (read-whole bank backup spec c opened new is zeros, holds-zeros bank backup spec c opened new is zeros)
