-- The limits, widths and sizes of document 01 ("Tables", "Bundles"), each named once.
use Rattle.std.specs.Prelude.{ℕ}

abbrev pub most_names : ℕ
most_names = 32

-- rows of types, of queries and of statements
abbrev pub most_rows : ℕ
most_rows = 512

abbrev pub most_procedures : ℕ
most_procedures = 16

abbrev pub most_variables : ℕ
most_variables = 16

abbrev pub last_label : ℕ
last_label = 1023

abbrev pub most_forest_rows : ℕ
most_forest_rows = 2048

abbrev pub most_pool : ℕ
most_pool = 16384

abbrev pub most_fuel : ℕ
most_fuel = 4096

abbrev pub most_depth : ℕ
most_depth = 200

-- a type asked about with more rows written out than this is Wide
abbrev pub most_width : ℕ
most_width = 512

-- rows counted in a lent slice
abbrev pub most_lent : ℕ
most_lent = 65535

-- words of the header, and of one row of each table
abbrev pub header_words : ℕ
header_words = 13

abbrev pub type_words : ℕ
type_words = 3

-- queries, statements, forests; working and result rows too
abbrev pub row_words : ℕ
row_words = 4

abbrev pub procedure_words : ℕ
procedure_words = 5

-- blocks
abbrev pub block_words : ℕ
block_words = 256

abbrev pub payload_words : ℕ
payload_words = 254

abbrev pub most_blocks : ℕ
most_blocks = 88

abbrev pub check_modulus : ℕ
check_modulus = 65535

-- what the program `apply` lends
abbrev pub program_work : ℕ
program_work = 6144

abbrev pub program_result : ℕ
program_result = 8192
