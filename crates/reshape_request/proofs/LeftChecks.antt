-- What is left at the steps of two reshapes, computed: four disks of level 5 to five, chunk 8, over 128 rows and over 40.
use Rattle.std.proofs.Common.{true, ◌≡◌, ℕ, [], refl}
use Rattle.std.specs.Prelude.{pos}
use Rattle.history.specs.raid_types_Search.{least_below}
use Rattle.history.specs.sb_codec_the_Sb.{Sb}
use Rattle.reshape_request.specs.declared.window.Window.TheVariants.{Closed, Entered, Unsure}
use Rattle.reshape_request.specs.Left.{grow_left}

abbrev at : ℕ → ℕ → Sb
at size position = record {
  magic = 0;
  major = 1;
  feature_map = 4;
  pad0 = 0;
  set_uuid = [];
  set_name = [];
  ctime = 0;
  level = 5;
  layout = 2;
  size = size;
  chunksize = 8;
  raid_disks = 5;
  bitmap_offset = 0;
  new_level = 5;
  reshape_position = position;
  delta_disks = pos 1;
  new_layout = 2;
  new_chunk = 8;
  new_offset = pos 0;
  data_offset = 16;
  data_size = 0;
  super_offset = 8;
  recovery_offset = 0;
  dev_number = 0;
  cnt_corrected_read = 0;
  device_uuid = [];
  devflags = 0;
  bblog_shift = 0;
  bblog_size = 0;
  bblog_offset = 0;
  utime = 0;
  events = 1;
  resync_offset = 0;
  sb_csum = 0;
  max_dev = 128;
  pad3 = [];
  dev_roles = [];
}

-- of 26 steps: begun, entered, three stripes copied, recorded
begun : grow_left (at 128 0) Closed 0 [] ≡ 25
unfolding least_below
begun = refl

entered : grow_left (at 128 0) (Entered (record { lo = 0; hi = 96 }) 0 true) 0 [] ≡ 24
unfolding least_below
entered = refl

copied : grow_left (at 128 0) (Entered (record { lo = 0; hi = 96 }) 1 true) 0 [] ≡ 23
unfolding least_below
copied = refl

all_copied : grow_left (at 128 0) (Entered (record { lo = 0; hi = 96 }) 3 true) 0 [] ≡ 21
unfolding least_below
all_copied = refl

recorded : grow_left (at 128 96) Closed 0 [] ≡ 20
unfolding least_below
recorded = refl

-- one more after a write that finished the first window
entered_again : grow_left (at 128 96) (Entered (record { lo = 96; hi = 192 }) 0 true) 0 [] ≡ 19
unfolding least_below
entered_again = refl

unsure : grow_left (at 128 0) (Unsure (record { lo = 0; hi = 96 })) 0 [] ≡ 25
unfolding least_below
unsure = refl

-- of 11 steps: the last window has one stripe, and one is zeroed behind it
short_begun : grow_left (at 40 0) Closed 0 [] ≡ 10
unfolding least_below
short_begun = refl

short_last : grow_left (at 40 96) (Entered (record { lo = 96; hi = 120 }) 0 true) 0 [] ≡ 4
unfolding least_below
short_last = refl

short_end : grow_left (at 40 120) Closed 0 [] ≡ 2
unfolding least_below
short_end = refl

short_zeroed : grow_left (at 40 120) Closed 1 [] ≡ 1
unfolding least_below
short_zeroed = refl
