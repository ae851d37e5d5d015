-- `file_of` meets its contract.
use Rattle.stepper.proofs.FileLaws.{file_some, file_fits, file_links, file_is}
use Rattle.stepper.proofs.file.file_of.Goals as goal

pub bounds-frames-0 : goal.bounds-frames-0
bounds-frames-0 c = search file_some

pub overflow_cast-result : goal.overflow_cast-result
overflow_cast-result c = search file_fits

pub labels_of-requires : goal.labels_of-requires
labels_of-requires c = search file_links

pub returns : goal.returns
returns c = search file_is
