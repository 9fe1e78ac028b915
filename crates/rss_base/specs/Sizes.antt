-- The numbers of the format.
use Rattle.std.specs.Prelude.{ℕ, ◌^◌, List, replicate}

-- how many bytes a page has
abbrev pub page_bytes : ℕ
page_bytes = 4096

-- a page of zeros
abbrev pub zero_page : List ℕ
zero_page = replicate page_bytes 0

-- how many tuples a page has an entry for
abbrev pub page_entries : ℕ
page_entries = 128

-- how many bytes the bodies of a page may have together
abbrev pub bodies_room : ℕ
bodies_room = 3056

-- how many bytes of the log a piece has
abbrev pub piece_bytes : ℕ
piece_bytes = 4000

-- how many entries of the map a page has
abbrev pub map_entries : ℕ
map_entries = 512

-- the pages in front of the map areas: the selector and the two roots
abbrev pub head_pages : ℕ
head_pages = 3

-- the newest version of the format
abbrev pub format_version : ℕ
format_version = 3

-- the least and the greatest number of slots of a store
abbrev pub slots_least : ℕ
slots_least = 64

abbrev pub slots_most : ℕ
slots_most = 65536

-- the least and the greatest number of log pages of a store
abbrev pub log_pages_least : ℕ
log_pages_least = 8

abbrev pub log_pages_most : ℕ
log_pages_most = 4096

-- how many segments there may be
abbrev pub segments : ℕ
segments = 8

-- how many relations there may be
abbrev pub relations_most : ℕ
relations_most = 48

-- how many images and links there may be
abbrev pub images_most : ℕ
images_most = 128

abbrev pub links_most : ℕ
links_most = 64

-- in how many links a relation may be
abbrev pub roles_most : ℕ
roles_most = 16

-- how many pages the system space has
abbrev pub system_pages : ℕ
system_pages = 10

-- positions of the log lie below this one
abbrev pub position_limit : ℕ
position_limit = 2 ^ 63

-- the size of the largest Checkpoint record
abbrev pub largest_checkpoint : ℕ
largest_checkpoint = 386
