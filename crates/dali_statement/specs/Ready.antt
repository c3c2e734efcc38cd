use Rattle.std.specs.Prelude.{◌≡◌, false}
use Rattle.csv.specs.declared.writer.Writer.{Writer}
use Rattle.csv.specs.Writing.{default_writer, writer_setup, fields_written, has_written}

-- a writer with the defaults of `csv` that stands before a row
pub record IsReady {W : Type 0} (writer : Writer W) : Type 0 where
  pub setup : writer_setup writer ≡ default_writer
  pub fields : fields_written writer ≡ 0
  pub wrote : has_written writer ≡ false
