-- An image tells the start that was written, and each accepted image is the one written of what is
-- read.
--
-- The claim. `write_image` makes the bytes of specs/Images; `read_image` answers torn, another
-- run's or the start that the bytes tell, each exactly where specs/Judgement says (`Reads`). Three
-- laws join both (`images_read_back`). What is written of a start with which a run goes on is
-- accepted and read as that start: `image_reads_back`, in BackLaws. A run goes on with each start
-- that is read: `start_is_ready`, in ReadyLaws. Bytes that are accepted are the image of the start
-- that they tell, so under one key no two images tell one start: `start_is_spelled`, in
-- SpelledLaws. And no two runs have the same bytes hashed for their keys: `keys_are`, in KeyLaws.
-- Of the hash only the length is used, and that writer and reader take the same one; nothing is
-- said of two texts with one hash.
--
-- What carries it. The numbers of fields, vertices and totals settle where each piece of an image
-- stands: mark, key, round that ended, ruling, counts, rows, totals, digest. So each piece that was
-- written is cut out where it stands (`cuts`, in BackLaws), and each piece that was cut out joins
-- what is behind it again (`piece`, in SpelledLaws). A number goes to bytes and back where it fits
-- them, a ruling where it is a mode of the program, a row where its words fit the types of its
-- fields, since a Bool is spelled as 0 or 1.
--
-- The chain. WriteLaws and ReadLaws: one row or one word more in the loops of writing and reading.
-- ReadyLaws: the test of the head is its facts, both ways (`head_goes_on`, `on_goes_head`), and
-- rows of which the Bools are ones fit the fields (`rows_fit`). BackLaws: numbers, pieces and rows
-- as they come back (`rows_back`, by the laws of refreshes in body_shape). SpelledLaws: the same
-- the other way, over bytes that are below 256. KeyLaws: a text behind its length, and a number of
-- fixed size, settle what stands behind (`same_counted`, `same_fronts`).
pub mod BackLaws
pub mod ReadLaws
pub mod ReadyLaws
pub mod WriteLaws
pub mod KeyLaws
pub mod SpelledLaws
