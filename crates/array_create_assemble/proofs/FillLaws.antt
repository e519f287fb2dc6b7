-- What a slot and its neighbours hold while one slot is written and then flushed.
use Rattle.std.proofs.Common.{◌≡◌, ◌≢◌, ◌⊎◌, inl, inr, ℕ, zero, suc, ◌+◌, ◌*◌, ◌<◌, ◌≤◌, Bool, true, List, [], ◌∷◌, ◌++◌, length, take, drop, get_or, refl, sym, ap, ap₂, ◌∙◌, subst, arith, take_all, le_refl, append_assoc, append-nil, Some, None, cond, nat_le, nat_lt, Result, Ok, Err}
use Rattle.std.specs.Prelude.{◌&&◌, OnOk, slice_range}
use Rattle.std.proofs.lemmas.Bool.Decides.{nat_tests}
use Rattle.std.proofs.lemmas.List.{take-append-drop, drop-drop, drop_at, length-drop, length-take-le, get_or-drop}
use Rattle.array_found_laws.specs.raid_types_Sectors.{Sector}
use Rattle.array_found_laws.specs.sb_codec_the_Sb.{Sb}
use Rattle.array_found_laws.specs.sb_specs_Found.{IsInSectors}
use Rattle.array_found_laws.specs.sb_codec_Superblock.{is_valid, sb_of, superblock_in, two_by_two}
use Rattle.sb_election.proofs.sb_codec_RoleTable.{two_by_two-append, length-two_by_two}
use Rattle.array_found_laws.proofs.raid_types_Tabulated.{length-tabulate}
use Rattle.sb_add_spare.specs.history_Created.{first_entries}
use Rattle.bank.specs.declared.bank.Operation.{Operation}
use Rattle.bank.specs.declared.bank.Operation.TheVariants.{Write, Flush}
use Rattle.bank.specs.Given.{Given}
use Rattle.bank.specs.Tape.{Contents, contents, disk, value_after, Did, AreSectors}
use Rattle.bank.proofs.Laws.{value_after-append, choices-present, disk-written, disk-unwritten, disk-flushed, disk-unflushed}
use Rattle.sb_add_spare.specs.stripe_row_Rows.{present}
use Rattle.array_create_assemble.specs.declared.spec.CreateSpec.{CreateSpec}
use Rattle.array_create_assemble.specs.Making.{created_sb}
use Rattle.array_create_assemble.specs.Filling.{AreBelow, OnlyBelow, IsSlotDone, IsMade}

-- ---- which slots were written

both-below : (n : ℕ) (xs ys : List Operation) → AreBelow n xs → AreBelow n ys → AreBelow n (xs ++ ys)
both-below n [] ys first second = second
both-below n (Write t j w ∷ xs) ys first second = (first.0, both-below n xs ys first.1 second)
both-below n (Flush t ∷ xs) ys first second = both-below n xs ys first second

more-below : (n m : ℕ) (ops : List Operation) → n ≤ m → AreBelow n ops → AreBelow m ops
more-below n m [] le all = tt
more-below n m (Write t j w ∷ ops) le all = (omega (arith, le, all.0), more-below n m ops le all.1)
more-below n m (Flush t ∷ ops) le all = more-below n m ops le all

few-below : (n i : ℕ) (ops : List Operation) → AreBelow n ops → AreBelow n (take i ops)
few-below n zero ops all = tt
few-below n (suc i) [] all = tt
few-below n (suc i) (Write t j w ∷ ops) all = (all.0, few-below n i ops all.1)
few-below n (suc i) (Flush t ∷ ops) all = few-below n i ops all

pub below-none : (n : ℕ) (old new : List Operation) → new ≡ old → OnlyBelow n old new
below-none n old new same = ([], tt, same ∙ sym (append-nil old))

pub below-then : (n : ℕ) (old mid new : List Operation) → OnlyBelow n old mid → OnlyBelow n mid new → OnlyBelow n old new
below-then n old mid new first second = (
  first.0 ++ second.0,
  both-below n first.0 second.0 first.1 second.1,
  second.2 ∙ ap (λ l. l ++ second.0) first.2 ∙ append_assoc old first.0 second.0,
)

pub below-more : (n m : ℕ) (old new : List Operation) → n ≤ m → OnlyBelow n old new → OnlyBelow m old new
below-more n m old new le all = (all.0, more-below n m all.0 le all.1, all.2)

pub below-did : {T E tells : Type 0} {r : Result T E} (n : ℕ) (old new ops : List Operation) → AreBelow n ops → Did tells r old new ops → tells → OnlyBelow n old new
below-did n old new ops all did told = let some = did.some told in (take some.0 ops, few-below n some.0 ops all, some.1)

-- ---- what the slots hold

pub present-is : (start : Contents) (tape : List Operation) (s k : ℕ) → contents start tape (length tape) s k ≡ value_after s k (start s k) tape
present-is start tape s k = ap (λ l. value_after s k (start s k) l) (take_all (length tape) tape (le_refl (length tape)))

head_same : (a b : Sector) (l : List Sector) → take 1 l ≡ a ∷ [] → take 1 l ≡ b ∷ [] → a ≡ b
head_same a b l x y = let e : a ∷ [] ≡ b ∷ [] = sym x ∙ y in first e
  where
    first : a ∷ [] ≡ b ∷ [] → a ≡ b
    first e = cc

-- of equal values that a stop may leave the present one is the same
pub present-same : (start : Contents) (old new : List Operation) (s k : ℕ) → disk start new s k ≡ disk start old s k
    → contents start new (length new) s k ≡ contents start old (length old) s k
present-same start old new s k same =
    present-is start new s k
    ∙ head_same (value_after s k (start s k) new) (value_after s k (start s k) old) (disk start new s k)
    (choices-present s k (start s k) [] new) (ap (λ l. take 1 l) same ∙ choices-present s k (start s k) [] old)
    ∙ sym (present-is start old s k)

-- what was flushed and is as it was stays flushed
pub flushed-same : (start : Contents) (old new : List Operation) (s k : ℕ) → disk start new s k ≡ disk start old s k
    → disk start old s k ≡ contents start old (length old) s k ∷ [] → disk start new s k ≡ contents start new (length new) s k ∷ []
flushed-same start old new s k same was = same ∙ was ∙ ap (λ v. v ∷ []) (sym (present-same start old new s k same))

-- ---- one operation

module _ (start : Contents) (old new : List Operation) (t : ℕ) where
  module _ (j : ℕ) (w : Sector) (is : new ≡ old ++ Write t j w ∷ []) where
    pub written-other : (s k : ℕ) → (t ≢ s) ⊎ (j ≢ k) → disk start new s k ≡ disk start old s k
    written-other s k other = ap (λ l. disk start l s k) is ∙ disk-unwritten start old s k t j w other

    pub written-here : contents start new (length new) t j ≡ w
    written-here =
        head_same (contents start new (length new) t j) w (disk start new t j)
        (choices-present t j (start t j) [] new ∙ ap (λ v. v ∷ []) (sym (present-is start new t j)))
        (ap (λ l. take 1 (disk start l t j)) is ∙ ap (λ l. take 1 l) (disk-written start old t j w))

  module _ (is : new ≡ old ++ Flush t ∷ []) where
    pub flushed-other : (s k : ℕ) → t ≢ s → disk start new s k ≡ disk start old s k
    flushed-other s k other = ap (λ l. disk start l s k) is ∙ disk-unflushed start old s k t other

    pub flushed-present : (s k : ℕ) → contents start new (length new) s k ≡ contents start old (length old) s k
    flushed-present s k =
        present-is start new s k ∙ ap (λ l. value_after s k (start s k) l) is ∙ value_after-append s k (start s k) old (Flush t ∷ [])
        ∙ sym (present-is start old s k)

    pub flushed-here : (k : ℕ) → disk start new t k ≡ contents start new (length new) t k ∷ []
    flushed-here k =
        ap (λ l. disk start l t k) is ∙ disk-flushed start old t k
        ∙ ap (λ v. v ∷ []) (sym (present-is start old t k) ∙ sym (flushed-present t k))

-- a sector of a slot is written, and the slot flushed
module _ (start : Contents) (old new : List Operation) (t j : ℕ) (w : Sector) (is : new ≡ old ++ Write t j w ∷ Flush t ∷ []) where
  abbrev mid : List Operation
  mid = old ++ Write t j w ∷ []

  second : new ≡ mid ++ Flush t ∷ []
  second = is ∙ sym (append_assoc old (Write t j w ∷ []) (Flush t ∷ []))

  pub put-here : contents start new (length new) t j ≡ w
  put-here = flushed-present start mid new t second t j ∙ written-here start old mid t j w refl

  pub put-rows : (k : ℕ) → k ≢ j → contents start new (length new) t k ≡ contents start old (length old) t k
  put-rows k other =
      flushed-present start mid new t second t k
      ∙ present-same start old mid t k (written-other start old mid t j w refl t k (inr (λ e. other (sym e))))

  pub put-done : IsSlotDone start old new t
  put-done = record {
    others = λ s k other. flushed-other start mid new t second s k (λ e. other (sym e))
        ∙ written-other start old mid t j w refl s k (inl (λ e. other (sym e)));
    flushed = flushed-here start mid new t second;
  }

-- ---- the superblock in a slot

pub stored-in : (sectors : ℕ) (slot : ℕ → Sector) (bytes : List ℕ) → 10 ≤ sectors → slot 8 ≡ take 512 bytes → slot 9 ≡ drop 512 bytes
    → is_valid bytes ≡ true → superblock_in sectors slot ≡ Some (sb_of bytes)
stored-in sectors slot bytes enough eighth ninth valid =
    let whole : slot 8 ++ slot 9 ≡ bytes = ap₂ (λ a b. a ++ b) eighth ninth ∙ take-append-drop 512 bytes in
    ap (λ l. cond (nat_le 10 sectors && is_valid l) (Some (sb_of l)) None) whole
    ∙ ap (λ b. cond b (Some (sb_of bytes)) None) (both (nat_le 10 sectors) (is_valid bytes) (is_long sectors enough) valid)
  where
    both : (a b : Bool) → a ≡ true → b ≡ true → (a && b) ≡ true
    both a b x y = grind (arith, x, y)

    is_long : (n : ℕ) → 10 ≤ n → nat_le 10 n ≡ true
    is_long n h = grind (arith, nat_tests, h)

-- and it stands in two sectors of bytes
pub halves-in : (slot : ℕ → Sector) (bytes read : List ℕ) → length bytes ≡ 1024 → length read ≡ 1024 → ((k : ℕ) → get_or read k 0 < 256) → slot 8 ≡ take 512 bytes → slot 9 ≡ drop 512 read
    → IsInSectors slot
halves-in slot bytes read long whole small eighth ninth = record {
  eighth = ap (λ (l : List ℕ). length l) eighth ∙ length-take-le 512 bytes (omega (arith, long));
  ninth = ap (λ (l : List ℕ). length l) ninth ∙ length-drop 512 read ∙ omega (arith, whole);
  bytes = λ k. subst (λ (n : ℕ). n < 256) (sym (ap (λ (l : List ℕ). get_or l k 0) ninth ∙ get_or-drop 512 read k 0)) (small (512 + k));
}

-- the second of two sectors that were read
pub second-read : (given : Given) (tape : List Operation) (slot : ℕ) (bytes : List ℕ) → length bytes ≡ 1024
    → AreSectors (present given tape slot) 8 bytes → present given tape slot 9 ≡ drop 512 bytes
second-read given tape slot bytes long are =
    sym (are 1 (omega (arith, long))) ∙ take_all 512 (drop 512 bytes) (omega (arith, long, length-drop 512 bytes))

-- the last entries of the table stand in the second sector
pub last-entries : (disks : ℕ) (bytes : List ℕ) → length bytes ≡ 1024
    → two_by_two (drop 512 bytes) ≡ drop 128 (first_entries disks ++ drop 128 (two_by_two (slice_range bytes 256 1024)))
last-entries disks bytes long =
    let entries : ℕ → ℕ = λ number. cond (nat_lt number disks) number 0xfffe in
    sym (drop_at' (first_entries disks) (drop 128 (two_by_two (slice_range bytes 256 1024))) (length-tabulate 128 entries)
    ∙ ap (λ l. drop 128 (two_by_two l)) halves
    ∙ ap (λ l. drop 128 l) (two_by_two-append 128 front (drop 512 bytes) front-long)
    ∙ drop_at' (two_by_two front) (two_by_two (drop 512 bytes)) (length-two_by_two 128 front front-long))
  where
    drop_at' : (xs ys : List ℕ) → length xs ≡ 128 → drop 128 (xs ++ ys) ≡ ys
    drop_at' xs ys count = drop_at xs ys 128 count

    front : List ℕ
    front = take 256 (drop 256 bytes)

    front-long : length front ≡ 2 * 128
    front-long = length-take-le 256 (drop 256 bytes) (omega (arith, long, length-drop 256 bytes))

    halves : slice_range bytes 256 1024 ≡ front ++ drop 512 bytes
    halves =
        take_all 768 (drop 256 bytes) (omega (arith, long, length-drop 256 bytes))
        ∙ sym (take-append-drop 256 (drop 256 bytes))
        ∙ ap (λ l. front ++ l) (drop-drop 256 256 bytes)

-- ---- what a call did

-- a flush that was made
pub on-flush : {T E tells : Type 0} (r : Result T E) (old new : List Operation) (slot : ℕ) (P : Type 0) → Did tells r old new (Flush slot ∷ [])
    → (tells → new ≡ old ++ Flush slot ∷ [] → P) → OnOk r (tells → P)
on-flush (Ok x) old new slot P did then = λ told. then told (did.all told refl)
on-flush (Err e) old new slot P did then = tt

-- a superblock that was written with its checksum is that of a member
pub made-of : (spec : CreateSpec) (number sectors csum : ℕ) (second : List ℕ) (sb stored : Sb) → length second ≡ 256
    → sb ≡ created_sb spec number sectors second → stored ≡ record sb { sb_csum = csum } → IsMade spec number sectors stored
made-of spec number sectors csum second sb stored long is whole =
    let sum : csum ≡ stored.sb_csum = sym (ap (λ (sb : Sb). sb.sb_csum) whole) in
    record { second = second; count = long; made = whole ∙ (λ i. record (is i) { sb_csum = sum i }) }
