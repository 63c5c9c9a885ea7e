-- Stores in which one call goes wrong.
use Rattle.std.specs.Prelude.{◌+◌, ◌&&◌, Bool, true, false}
use Rattle.gq_spill.specs.Runs.{Runs, one_if}
use Rattle.gq_spill.specs.declared.fuse_store.Trouble.{Trouble}
use Rattle.gq_spill.specs.declared.fuse_store.Trouble.TheVariants.{Fail, Short}
use Rattle.gq_spill.specs.declared.fuse.Fuse.{Fuse}
use Rattle.gq_spill.specs.declared.fuse.Fuse.TheVariants.{Fails, Failed, Shortens, Shortened}

-- the countdown to a trouble that is still to come
abbrev pub fuse_of : Trouble → Fuse
fuse_of (Fail call) = Fails call
fuse_of (Short read) = Shortens read

-- the call that fails was made
abbrev pub has_failed : Fuse → Bool
has_failed (Fails left) = false
has_failed Failed = true
has_failed (Shortens left) = false
has_failed Shortened = false

-- no read is ever cut short
abbrev pub reads_whole : Fuse → Bool
reads_whole (Fails left) = true
reads_whole Failed = true
reads_whole (Shortens left) = false
reads_whole Shortened = false

-- the runs of a store in which a call goes wrong: honest if the inner store is and no read is cut short, with
-- one more failure once the failing call was made
abbrev pub fused : Runs → Fuse → Runs
fused inner fuse = record {
  live = inner.live;
  content = inner.content;
  honest = inner.honest && reads_whole fuse;
  made = inner.made;
  failures = inner.failures + one_if (has_failed fuse);
}
