-- Where a file's first fault is: the file of a tetrahedron cut, lengthened and altered, one table under a single claim. Assumes nothing.
use mathlib.Core.Path.{◌≡◌, refl}
use mathlib.Core.List.{map}
use Rattle.mesh.specs.Search.{first_from, first, some}
use Rattle.rings.specs.Verdict.{refuse_if, refuse_at}
use Rattle.file_format.specs.Bytes.{record_of, number_at, length_at, kind_at, after_at, whole_at}
use Rattle.file_format.specs.Layout.{file_count, row_at, file_valence, is_first, is_row, is_last, file_verdict}
use Rattle.file_writing.specs.Write.{payload_of, file_of}
use Rattle.file_round_trips.specs.Damaged.{file, files, verdicts}

pub faults : map file_verdict files ≡ verdicts
unfolding file files file_of payload_of record_of first_from first some refuse_if refuse_at number_at length_at kind_at after_at whole_at file_count row_at file_valence is_first is_row is_last file_verdict
faults = refl
