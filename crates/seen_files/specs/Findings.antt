-- What was found in a file, as a file that was seen.
use Rattle.seen_files.specs.declared.found_file.FoundFile.{FoundFile}
use Rattle.seen_files.specs.declared.seen.SeenFile.{SeenFile}

abbrev pub seen_of : FoundFile → SeenFile
seen_of f = record { path = f.path; bytes = f.bytes; opened = f.opened; results = f.results; notices = f.notices; text = f.text }
