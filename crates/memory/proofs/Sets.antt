-- The lemmas that each function's proof takes.
use Rattle.std.proofs.lemmas.Bool.{le-leb}
use Rattle.std.proofs.lemmas.Bool.Decides.{nat_tests}
use Rattle.memory.proofs.Frames.{length-memory, length-frame, lent_mapped, lent_frame}
use Rattle.memory.proofs.Walks.{no_leaf, leaf_frame, no_page, in_page, walk_in, walk_out, load_there, word_there, read_there, fetch_odd, fetch_word}
use Rattle.memory.proofs.Walks.{store_fits_there, stored_there, stored_memory, stored_control, stored_mapped}

pub ruleset comparisons = (nat_tests)

pub ruleset sizes = (length-memory)

pub ruleset walking = (no_leaf, leaf_frame, no_page, in_page, walk_in, walk_out)

pub ruleset fetching = (word_there, read_there, fetch_odd, fetch_word)

pub ruleset loading = (load_there, read_there, le-leb)

pub ruleset storing = (store_fits_there, stored_there, stored_memory, stored_control, stored_mapped)

pub ruleset lending = (lent_mapped, lent_frame, length-frame)
