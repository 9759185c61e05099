mod Fields
mod Serving
