pub mod OpenFiles
