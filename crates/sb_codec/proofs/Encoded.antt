-- What the fields are after the roles and the checksum are written over written fields.
use Rattle.std.proofs.Common.{◌≡◌, ℕ, ◌+◌, ◌*◌, ◌/◌, ◌%◌, ◌^◌, ◌≤◌, true, ◌&&◌, ◌==◌, nat_le, List, [], ◌∷◌, ◌++◌, length, take, drop, slice_range, refl, sym, ap, ap₂, ◌∙◌, arith, lit≤}
use Rattle.std.proofs.lemmas.Bool.Decides.{nat_tests}
use Rattle.std.proofs.lemmas.List.{length-append, length-drop, length-take, take-append-drop}
use Rattle.std.proofs.lemmas.List.Folds.{drop_split}
use Rattle.std.proofs.lemmas.Slice.{between_to_end, between-put_mid, drop-put_mid, take-put_mid_below}
use borrow.Rule.Slice.PartMut.{put_mid}
use Rattle.raid_types.specs.Bytes.{field}
use Rattle.sb_codec.specs.declared.sb.Sb.{Sb}
use Rattle.sb_codec.specs.Kept.{KeptBefore, KeptFrom}
use Rattle.sb_codec.specs.Superblock.{signed, two_by_two, sb_of, word_sum, checksum, is_valid}
use Rattle.sb_codec.specs.Writable.{IsWritable}
use Rattle.sb_codec.proofs.RoleTable.{two_by_two-append}
use Rattle.sb_codec.proofs.SameBytes.{before-less, before-then, from-more, range-before, range-from, field-before, field-from}
use Rattle.sb_codec.proofs.SameFields.{from-fields}

-- only the checksum and the roles changed: the roles first, then the checksum
pub header-kept : (a b c : List ℕ) → KeptBefore 256 a b → KeptBefore 216 b c → KeptFrom 220 b c
    → sb_of c ≡ record (sb_of a) { sb_csum = (sb_of c).sb_csum; dev_roles = (sb_of c).dev_roles }
header-kept a b c wide before after =
    let kept : KeptBefore 216 c a = record { same = sym (before-then 216 216 (lit≤ tt) narrow before).same } in
    let number : (offset width : ℕ) → offset + width ≤ 216 → field c offset width ≡ field a offset width =
    λ offset width within. field-before offset width 216 within kept in
    let part : (from to : ℕ) → to ≤ 216 → slice_range c from to ≡ slice_range a from to =
    λ from to within. range-before from to 216 within kept in
    from-fields (sb_of c) (record (sb_of a) { sb_csum = (sb_of c).sb_csum; dev_roles = (sb_of c).dev_roles }) (record {
      magic = number 0 4 (lit≤ tt);
      major = number 4 4 (lit≤ tt);
      feature_map = number 8 4 (lit≤ tt);
      pad0 = number 12 4 (lit≤ tt);
      set_uuid = part 16 32 (lit≤ tt);
      set_name = part 32 64 (lit≤ tt);
      ctime = number 64 8 (lit≤ tt);
      level = number 72 4 (lit≤ tt);
      layout = number 76 4 (lit≤ tt);
      size = number 80 8 (lit≤ tt);
      chunksize = number 88 4 (lit≤ tt);
      raid_disks = number 92 4 (lit≤ tt);
      bitmap_offset = number 96 4 (lit≤ tt);
      new_level = number 100 4 (lit≤ tt);
      reshape_position = number 104 8 (lit≤ tt);
      delta_disks = ap signed (number 112 4 (lit≤ tt));
      new_layout = number 116 4 (lit≤ tt);
      new_chunk = number 120 4 (lit≤ tt);
      new_offset = ap signed (number 124 4 (lit≤ tt));
      data_offset = number 128 8 (lit≤ tt);
      data_size = number 136 8 (lit≤ tt);
      super_offset = number 144 8 (lit≤ tt);
      recovery_offset = number 152 8 (lit≤ tt);
      dev_number = number 160 4 (lit≤ tt);
      cnt_corrected_read = number 164 4 (lit≤ tt);
      device_uuid = part 168 184 (lit≤ tt);
      devflags = number 184 1 (lit≤ tt);
      bblog_shift = number 185 1 (lit≤ tt);
      bblog_size = number 186 2 (lit≤ tt);
      bblog_offset = number 188 4 (lit≤ tt);
      utime = number 192 8 (lit≤ tt);
      events = number 200 8 (lit≤ tt);
      resync_offset = number 208 8 (lit≤ tt);
      sb_csum = refl;
      max_dev = sym (field-before 220 4 256 (lit≤ tt) wide ∙ field-from 220 220 4 (lit≤ tt) after);
      pad3 = sym (range-before 224 256 256 (lit≤ tt) wide ∙ range-from 220 224 256 (lit≤ tt) after);
      dev_roles = refl;
    })
  where
    narrow : KeptBefore 216 a b
    narrow = record { same = (before-less 216 256 (lit≤ tt) wide).same }

pub checksum-kept : (a b : List ℕ) → KeptBefore 216 a b → KeptFrom 220 a b → checksum a ≡ checksum b
checksum-kept a b before after =
    let count : field a 220 4 ≡ field b 220 4 = field-from 220 220 4 (lit≤ tt) after in
    let back : slice_range a 220 (256 + 2 * field a 220 4) ≡ slice_range b 220 (256 + 2 * field b 220 4) =
    range-from 220 220 (256 + 2 * field a 220 4) (lit≤ tt) after ∙ ap (λ (n : ℕ). slice_range b 220 (256 + 2 * n)) count in
    ap₂ (λ (front rest : List ℕ). let summed = word_sum (front ++ (0 ∷ 0 ∷ 0 ∷ 0 ∷ []) ++ rest) in
    (summed % 2 ^ 32 + summed / 2 ^ 32) % 2 ^ 32) before.same back

-- the role entries of both sectors
pub roles-joined : (bytes front roles : List ℕ) → length bytes ≡ 1024 → slice_range bytes 256 512 ≡ front → length front ≡ 256
    → two_by_two front ≡ take 128 roles → two_by_two (drop 512 bytes) ≡ drop 128 roles
    → two_by_two (slice_range bytes 256 1024) ≡ roles
roles-joined bytes front roles long part short first second =
    let whole : slice_range bytes 256 1024 ≡ front ++ drop 512 bytes =
    between_to_end bytes 256 1024 (omega arith) ∙ drop_split bytes 256 512 (lit≤ tt) ∙ ap (λ (l : List ℕ). l ++ drop 512 bytes) part in
    ap two_by_two whole ∙ two_by_two-append 128 front (drop 512 bytes) short
    ∙ ap₂ (λ (l r : List ℕ). l ++ r) first second ∙ take-append-drop 128 roles

pub valid-of : (bytes : List ℕ) → field bytes 0 4 ≡ 0xa92b4efc → field bytes 4 4 ≡ 1 → field bytes 144 8 ≡ 8
    → field bytes 220 4 ≤ 384 → field bytes 216 4 ≡ checksum bytes → is_valid bytes ≡ true
valid-of bytes magic major super_offset max_dev sum =
    all (field bytes 0 4) (field bytes 4 4) (field bytes 144 8) (field bytes 220 4) (field bytes 216 4) (checksum bytes)
    magic major super_offset max_dev sum
  where
    all : (m v o d s c : ℕ) → m ≡ 0xa92b4efc → v ≡ 1 → o ≡ 8 → d ≤ 384 → s ≡ c
        → ((m == 0xa92b4efc) && (v == 1) && (o == 8) && nat_le d 384 && (s == c)) ≡ true
    all m v o d s c hm hv ho hd hs = grind (arith, nat_tests)

-- The sectors before, with the fields written, with the roles written too, and with the checksum.
pub record IsWritten (sb : Sb) (old first second third front : List ℕ) : Type 0 where
  pub old_long : length old ≡ 1024
  pub first_long : length first ≡ 1024
  pub fields : sb_of first ≡ record sb { dev_roles = two_by_two (slice_range old 256 1024) }
  pub kept : KeptFrom 256 old first
  pub front_long : length front ≡ 256
  pub entries : two_by_two front ≡ take 128 sb.dev_roles
  pub others : two_by_two (drop 512 old) ≡ drop 128 sb.dev_roles
  pub table : second ≡ put_mid 256 256 first front
  pub sum : field third 216 4 ≡ checksum second
  pub before : KeptBefore 216 second third
  pub after : KeptFrom 220 second third

module _ {sb : Sb} {old first second third front : List ℕ} (w : IsWritten sb old first second third front) where
  table-before : KeptBefore 256 first second
  table-before =
      let room : 256 ≤ length first = omega (arith, w.first_long) in
      record { same = sym (ap (take 256) w.table ∙ take-put_mid_below 256 256 first front 256 (lit≤ tt) room) }

  table-after : KeptFrom 512 first second
  table-after =
      let room : 256 ≤ length first = omega (arith, w.first_long) in
      record { same = sym (ap (drop 512) w.table ∙ drop-put_mid 256 256 first front 512 (lit≤ tt) room w.front_long) }

  pub second_half-kept : drop 512 third ≡ drop 512 old
  second_half-kept = sym ((from-more 256 512 (lit≤ tt) w.kept).same ∙ table-after.same ∙ (from-more 220 512 (lit≤ tt) w.after).same)

  second-long : length second ≡ 1024
  second-long =
      let sizes = length-append (take 256 first) (front ++ drop 256 (drop 256 first)) in
      ap length w.table ∙ omega (arith, w.first_long, w.front_long, sizes, length-append front (drop 256 (drop 256 first)), length-take {A = ℕ}, length-drop {A = ℕ})

  roles-kept : two_by_two (slice_range third 256 1024) ≡ sb.dev_roles
  roles-kept =
      let room : 256 ≤ length first = omega (arith, w.first_long) in
      let part : slice_range second 256 512 ≡ front =
      ap (λ (l : List ℕ). slice_range l 256 512) w.table ∙ between-put_mid 256 256 first front 512 room w.front_long in
      let half : drop 512 second ≡ drop 512 old = sym ((from-more 256 512 (lit≤ tt) w.kept).same ∙ table-after.same) in
      ap two_by_two (sym (range-from 220 256 1024 (lit≤ tt) w.after))
      ∙ roles-joined second front sb.dev_roles second-long part w.front_long w.entries (ap two_by_two half ∙ w.others)

  checksum-right : field third 216 4 ≡ checksum third
  checksum-right = w.sum ∙ checksum-kept second third w.before w.after

  pub fields-are : sb_of third ≡ record sb { sb_csum = checksum third }
  fields-are =
      header-kept first second third table-before w.before w.after
      ∙ λ i. record (w.fields i) { sb_csum = checksum-right i; dev_roles = roles-kept i }

  pub valid-is : IsWritable sb → is_valid third ≡ true
  valid-is writable =
      let same : sb_of third ≡ record sb { sb_csum = checksum third } = fields-are in
      let max_dev : field third 220 4 ≡ sb.max_dev = ap (λ (s : Sb). s.max_dev) same in
      let room : sb.max_dev ≤ 384 = writable.max_dev in
      valid-of third (ap (λ (s : Sb). s.magic) same ∙ writable.magic) (ap (λ (s : Sb). s.major) same ∙ writable.major)
      (ap (λ (s : Sb). s.super_offset) same ∙ writable.super_offset) (omega arith) checksum-right

-- the roles leave max_dev as it was written
pub max_dev-stands : (sb : Sb) (roles first front : List ℕ) → length first ≡ 1024 → sb_of first ≡ record sb { dev_roles = roles }
    → field (put_mid 256 256 first front) 220 4 ≡ sb.max_dev
max_dev-stands sb roles first front long fields =
    let kept : KeptBefore 256 (put_mid 256 256 first front) first =
    record { same = take-put_mid_below 256 256 first front 256 (lit≤ tt) (omega arith) } in
    field-before 220 4 256 (lit≤ tt) kept ∙ ap (λ (s : Sb). s.max_dev) fields
