-- What the words of a command line ask for.
use Rattle.std.specs.Prelude.{ℕ, ◌==◌, ◌&&◌, ◌||◌, not, nat_le, nat_lt, Bool, List, [], ◌∷◌, Option, None, Some, String, string_bytes, codes, decimal, find, length, map, slice_index, if◌then◌else◌}
use Rattle.std.specs.Char.{is_ascii_digit}
use Rattle.std.specs.List.{list_all, range_with_len}
use Rattle.std.specs.Option.{option_map}
use Rattle.std.specs.Str.{bytes_eq}
use Rattle.weight_scale.specs.Numeral.{number_of}

-- A request, with the names in it as bytes. A report is checked in two steps: `check` looks at the
-- file of its diagram, and where nothing is found there, `judge` looks at the report's, with the
-- diagram's text at hand. No words ask for `judge` itself.
pub data Request : Type 0 where
  solve : (file : List ℕ) → Request
  check : (file report : List ℕ) → Request
  judge : (text report : List ℕ) → Request
  graph : (file : List ℕ) → Request
  print : (file : List ℕ) → Request
  trim : (file : List ℕ) → Request
  pure : (file : List ℕ) → Request
  update : (file : List ℕ) → Request
  info : (file agent : List ℕ) → Request
  control : (file agent : List ℕ) → Request
  evidence : (file node state : List ℕ) → Request
  threshold : (file node : List ℕ) → (row : ℕ) → (state : List ℕ) → Request
  demo : (k : ℕ) → Request

-- the name that lines tell for the request's text: its file's, or `demo` for a generated text
abbrev pub file_name : Request → List ℕ
file_name (solve file) = file
file_name (check file report) = file
file_name (judge text report) = report
file_name (graph file) = file
file_name (print file) = file
file_name (trim file) = file
file_name (pure file) = file
file_name (update file) = file
file_name (info file agent) = file
file_name (control file agent) = file
file_name (evidence file node state) = file
file_name (threshold file node row state) = file
file_name (demo k) = codes "demo"

-- the request names a file
abbrev pub IsOfFile : Request → Type 0
IsOfFile (demo k) = ⊥
IsOfFile request = Unit {0}

-- the number of stages that a word is: the one from 1 to 60 whose digits it is
unfoldable pub stages_of : List ℕ → Option ℕ
stages_of word = find (λ k. bytes_eq word (decimal k)) (range_with_len 1 60)

-- a form of two words: its word, and then the file's name or the number of stages
abbrev pub request_by_word : List ℕ → List ℕ → Option Request
request_by_word word next =
    if bytes_eq word (codes "solve") then Some (solve next)
    else (if bytes_eq word (codes "graph") then Some (graph next)
    else (if bytes_eq word (codes "print") then Some (print next)
    else (if bytes_eq word (codes "trim") then Some (trim next)
    else (if bytes_eq word (codes "pure") then Some (pure next)
    else (if bytes_eq word (codes "update") then Some (update next)
    else (if bytes_eq word (codes "demo") then option_map demo (stages_of next) else None))))))

-- a form of three words: its word, a file's name, and then that of a report's file or of an agent
abbrev pub request_by_words : List ℕ → List ℕ → List ℕ → Option Request
request_by_words word next last =
    if bytes_eq word (codes "check") then Some (check next last)
    else (if bytes_eq word (codes "info") then Some (info next last)
    else (if bytes_eq word (codes "control") then Some (control next last) else None))

-- one to five bytes, of which the first is the digit 0 only where it stands alone
abbrev pub is_row_size : List ℕ → Bool
is_row_size word = nat_lt 0 (length word)
    && (nat_le (length word) 5 && ((length word == 1) || not (slice_index word 0 == 48)))

-- the number of a row in decimal digits
abbrev pub is_row_word : List ℕ → Bool
is_row_word word = is_row_size word && list_all is_ascii_digit word

-- the number of a row that the word is, if it is one
abbrev pub row_in_word : List ℕ → Option ℕ
row_in_word word = if is_row_word word then Some (number_of word) else None

-- a form of four words: `given`, a file's name, a node's, and a state's label
abbrev pub request_by_evidence : List ℕ → List ℕ → List ℕ → List ℕ → Option Request
request_by_evidence word file node state =
    if bytes_eq word (codes "given") then Some (evidence file node state) else None

-- a form of five words: `threshold`, a file's name, a node's, the number of one of its rows, and a
-- state's label
abbrev pub request_by_row : List ℕ → List ℕ → List ℕ → List ℕ → List ℕ → Option Request
request_by_row word file node row state = if bytes_eq word (codes "threshold")
    then option_map (λ number. threshold file node number state) (row_in_word row)
    else None

-- the request of the words, where they are of a form
abbrev pub request_of : List (List ℕ) → Option Request
request_of [] = None
request_of (word ∷ []) = None
request_of (word ∷ next ∷ []) = request_by_word word next
request_of (word ∷ next ∷ last ∷ []) = request_by_words word next last
request_of (word ∷ next ∷ last ∷ fourth ∷ []) = request_by_evidence word next last fourth
request_of (word ∷ next ∷ last ∷ fourth ∷ fifth ∷ []) = request_by_row word next last fourth fifth
request_of (word ∷ next ∷ last ∷ fourth ∷ fifth ∷ other ∷ words) = None

module _ {Z : Type 0} where
  -- the request of the words of the code
  abbrev pub requested : List (String Z) → Option Request
  requested words = request_of (map (λ word. string_bytes word) words)
