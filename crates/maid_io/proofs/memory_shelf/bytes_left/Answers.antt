-- The place is that of the started file, whose bytes are those of the list.
use Rattle.std.proofs.Common.{[], refl}
use Rattle.maid_io.proofs.Files.{place_within, left_here, given_here}
use Rattle.maid_io.proofs.memory_shelf.bytes_left.Goals as goal

pub bounds-files-i : goal.bounds-files-i
bounds-files-i c = place_within c.args.files.now c.args.started c.args.given c.in-Some.i c.in-Some.is c.requires

pub slice_bounds-result-count : goal.slice_bounds-result-count
slice_bounds-result-count c =
    given_here c.args.files.now [] c.in-Some.i c.index-files-i.result (place_within c.args.files.now c.args.started c.args.given c.in-Some.i c.in-Some.is c.requires) c.index-files-i.is c.args.started c.args.given c.deref.result.now c.in-Some.is (cc c.deref.ensures.value) c.requires

pub returns-in-Some-clause-left : goal.returns-in-Some-clause-left
returns-in-Some-clause-left c =
    left_here c.args.files.now [] c.in-Some.i c.index-files-i.result (place_within c.args.files.now c.args.started c.args.given c.in-Some.i c.in-Some.is c.requires) c.index-files-i.is c.args.started c.args.given c.deref.result.now c.in-Some.is (cc c.deref.ensures.value)

pub returns-in-None-clause-left : goal.returns-in-None-clause-left
returns-in-None-clause-left c = rw c.in-None.is refl
